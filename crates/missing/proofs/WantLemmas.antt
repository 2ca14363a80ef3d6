-- Lists of announcements.
use Rattle.std.proofs.Common.{◌≡◌, ◌∙◌, ◌+◌, ◌<◌, ℕ, List, [], ◌∷◌, ◌++◌, length, get_or, take, ap, refl}
use Rattle.std.proofs.lemmas.List.{take_more}
use Rattle.node_names.specs.NodeName.{Name}
use Rattle.node_names.specs.declared.ids.MsgId.{MsgId}
use Rattle.missing.specs.Timers.{with_timer, with_timers}
use Rattle.missing.specs.Wants.{with_want, with_wants}

-- one more announcement
pub with_wants-push : (peer : Name) (announced : List (MsgId × ℕ)) (one : MsgId × ℕ) (wants : List (MsgId × Name × ℕ)) →
    with_wants peer (announced ++ one ∷ []) wants ≡ with_want one.0 peer one.1 (with_wants peer announced wants)
with_wants-push peer [] one wants = refl
with_wants-push peer (first ∷ announced) one wants = with_wants-push peer announced one (with_want first.0 peer first.1 wants)

pub with_wants-take : (peer : Name) (announced : List (MsgId × ℕ)) (i : ℕ) (d : MsgId × ℕ) (wants : List (MsgId × Name × ℕ)) →
    i < length announced →
    with_wants peer (take (i + 1) announced) wants ≡ with_want (get_or announced i d).0 peer (get_or announced i d).1 (with_wants peer (take i announced) wants)
with_wants-take peer announced i d wants within =
    ap (λ those. with_wants peer those wants) (take_more announced i d within) ∙ with_wants-push peer (take i announced) (get_or announced i d) wants

pub with_timers-push : (announced : List (MsgId × ℕ)) (one : MsgId × ℕ) (timers : List MsgId) →
    with_timers (announced ++ one ∷ []) timers ≡ with_timer one.0 (with_timers announced timers)
with_timers-push [] one timers = refl
with_timers-push (first ∷ announced) one timers = with_timers-push announced one (with_timer first.0 timers)

pub with_timers-take : (announced : List (MsgId × ℕ)) (i : ℕ) (d : MsgId × ℕ) (timers : List MsgId) →
    i < length announced →
    with_timers (take (i + 1) announced) timers ≡ with_timer (get_or announced i d).0 (with_timers (take i announced) timers)
with_timers-take announced i d timers within =
    ap (λ those. with_timers those timers) (take_more announced i d within) ∙ with_timers-push (take i announced) (get_or announced i d) timers
