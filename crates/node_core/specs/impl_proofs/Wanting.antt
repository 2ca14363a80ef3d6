-- A peer announces messages: what such a step must satisfy. Proofs only; nothing here has to be trusted.
use Rattle.std.specs.Prelude.{◌≡◌, ◌≢◌, ◌⊎◌, ◌&&◌, ◌||◌, ℕ, Bool, true, false, not, List, [], ◌∷◌, ◌++◌, is_some, filter, refl, if◌then◌else◌}
use Rattle.std.specs.FinSet as set
use Rattle.std.proofs.Common.{inl, inr, sym, ◌∙◌, ap, subst}
use Rattle.std.proofs.lemmas.Bool.{false≢true, true≢false}
use Rattle.node_names.specs.NodeName.{Name}
use Rattle.node_names.specs.Same.{same_id, same_id-Decides, same_name, same_name-Decides, same_origin, same_origin-Decides, has_id, has_name}
use Rattle.node_names.specs.declared.dice.Dice.{Dice}
use Rattle.node_names.specs.declared.ids.MsgId.{MsgId}
use Rattle.node_names.specs.declared.ids.Origin.{Origin}
use Rattle.protocol.specs.CoreState.{CoreState}
use Rattle.protocol.specs.impl_proofs.NameLists.{and_left, and_right, not_true}
use Rattle.protocol.specs.Laws.{StepLaws}
use Rattle.protocol.specs.Lists.{IsOneOf}
use Rattle.protocol.specs.declared.stimulus.StimulusOf.TheVariants as on
use Rattle.frames.specs.Content.{frame_content}
use Rattle.frames.specs.Frame.{Frame}
use Rattle.frames.specs.declared.body.BodyOf.TheVariants.{IHave}
use Rattle.missing.specs.Missing.{announced_all}
use Rattle.missing.specs.Timers.{with_timer, with_timers}
use Rattle.missing.specs.Wants.{is_wanted, with_want, with_wants, place_of, same_place}
use Rattle.peer_sets.specs.Members.{names, is_member}
use Rattle.peer_sets.proofs.MemberLemmas.{is_member-names}
use Rattle.gossip_core.specs.State.{GossipState}
use Rattle.gossip_core.specs.Table.{Outcome, outcome, is_news, quiet}
use Rattle.gossip_core.specs.declared.call.CallOf.TheVariants as call
use Rattle.node_core.specs.impl_proofs.Members.{each_one, one_of_left, one_of_right, one_of_append, one_of_filter, one_of_passing}
use Rattle.node_core.specs.Plum.{IsLacked, state_with}
use Rattle.node_core.specs.impl_proofs.Resting.{delivers_nothing, leaves_all, keeps_all}
use Rattle.node_core.specs.Steps.{numbered, delivered_at}

-- ---- entries

-- The peer's announcement of the id is an entry, at some round.
abbrev Stands : MsgId → Name → List (MsgId × Name × ℕ) → Type 0
Stands id peer wants = (round : ℕ) × IsOneOf (id, peer, round) wants

-- where an entry is found, it stands
stands_there : (id : MsgId) (peer : Name) (wants : List (MsgId × Name × ℕ)) → is_wanted id peer wants ≡ true → Stands id peer wants
stands_there id peer [] none = absurd (false≢true none)
stands_there id peer (entry ∷ wants) found = go (stands_there id peer wants) (same_place (id, peer) (place_of entry)) refl found
  where
    go : (is_wanted id peer wants ≡ true → Stands id peer wants) →
        (b : Bool) →
        same_place (id, peer) (place_of entry) ≡ b →
        (b || is_wanted id peer wants) ≡ true →
        Stands id peer (entry ∷ wants)
    go rest true is e =
        let same : id ≡ entry.0 = (same_id-Decides id entry.0).0 (and_left (same_id id entry.0) (same_name peer entry.1) is) in
        let by : peer ≡ entry.1 = (same_name-Decides peer entry.1).0 (and_right (same_id id entry.0) (same_name peer entry.1) is) in
        (entry.2, inl (λ i. (same i, by i, entry.2)))
    go rest false is e = let later : Stands id peer wants = rest e in (later.0, inr later.1)

-- one more announcement stands
stands_now : (id : MsgId) (peer : Name) (round : ℕ) (wants : List (MsgId × Name × ℕ)) → Stands id peer (with_want id peer round wants)
stands_now id peer round wants = go (is_wanted id peer wants) refl
  where
    go : (b : Bool) → is_wanted id peer wants ≡ b → Stands id peer (if b then wants else wants ++ (id, peer, round) ∷ [])
    go true is = stands_there id peer wants is
    go false is = (round, one_of_right (id, peer, round) wants ((id, peer, round) ∷ []) (inl refl))

-- and what stood stays
stays_one : (id : MsgId) (peer : Name) (round : ℕ) (wants : List (MsgId × Name × ℕ)) (entry : MsgId × Name × ℕ) →
    IsOneOf entry wants →
    IsOneOf entry (with_want id peer round wants)
stays_one id peer round wants entry h = go (is_wanted id peer wants)
  where
    go : (b : Bool) → IsOneOf entry (if b then wants else wants ++ (id, peer, round) ∷ [])
    go true = h
    go false = one_of_left entry wants ((id, peer, round) ∷ []) h

stays : (peer : Name) (news : List (MsgId × ℕ)) (wants : List (MsgId × Name × ℕ)) (entry : MsgId × Name × ℕ) →
    IsOneOf entry wants →
    IsOneOf entry (with_wants peer news wants)
stays peer [] wants entry h = h
stays peer (one ∷ news) wants entry h = stays peer news (with_want one.0 peer one.1 wants) entry (stays_one one.0 peer one.1 wants entry h)

-- each that is announced stands
all_stand : (peer : Name) (news : List (MsgId × ℕ)) (wants : List (MsgId × Name × ℕ)) (id : MsgId) (round : ℕ) →
    IsOneOf (id, round) news →
    Stands id peer (with_wants peer news wants)
all_stand peer [] wants id round none = absurd none
all_stand peer (one ∷ news) wants id round (inl same) =
    let now : Stands one.0 peer (with_want one.0 peer one.1 wants) = stands_now one.0 peer one.1 wants in
    let is : id ≡ one.0 = ap (λ (x : MsgId × ℕ). x.0) same in
    subst (λ i. Stands i peer (with_wants peer news (with_want one.0 peer one.1 wants))) (sym is) (
      now.0,
      stays peer news (with_want one.0 peer one.1 wants) (one.0, peer, now.0) now.1,
    )
all_stand peer (one ∷ news) wants id round (inr later) = all_stand peer news (with_want one.0 peer one.1 wants) id round later

-- what stands stood before, or was announced
stood_one : (id : MsgId) (peer : Name) (round : ℕ) (wants : List (MsgId × Name × ℕ)) (entry : MsgId × Name × ℕ) →
    IsOneOf entry (with_want id peer round wants) →
    IsOneOf entry wants ⊎ (entry ≡ (id, peer, round))
stood_one id peer round wants entry = go (is_wanted id peer wants)
  where
    go : (b : Bool) → IsOneOf entry (if b then wants else wants ++ (id, peer, round) ∷ []) → IsOneOf entry wants ⊎ (entry ≡ (id, peer, round))
    go true h = inl h
    go false h = elim (one_of_append entry wants ((id, peer, round) ∷ []) h) [ inl was ↦ inl was | inr (inl new) ↦ inr new | inr (inr none) ↦ absurd none ]

pub stood : (peer : Name) (news : List (MsgId × ℕ)) (wants : List (MsgId × Name × ℕ)) (entry : MsgId × Name × ℕ) →
    IsOneOf entry (with_wants peer news wants) →
    IsOneOf entry wants ⊎ ((entry.1 ≡ peer) × IsOneOf (entry.0, entry.2) news)
stood peer [] wants entry h = inl h
stood peer (one ∷ news) wants entry h =
    elim (stood peer news (with_want one.0 peer one.1 wants) entry h) [
      | inl now ↦ elim (stood_one one.0 peer one.1 wants entry now) [
        | inl was ↦ inl was
        | inr new ↦ inr (ap (λ (x : MsgId × Name × ℕ). x.1) new, inl (ap (λ (x : MsgId × Name × ℕ). (x.0, x.2)) new))
      ]
      | inr later ↦ inr (later.0, inr later.1)
    ]

-- ---- timers

-- what was armed stays so
keeps_one : (id : MsgId) (timers : List MsgId) (other : MsgId) → IsOneOf other timers → IsOneOf other (with_timer id timers)
keeps_one id timers other h = go (has_id timers id)
  where
    go : (b : Bool) → IsOneOf other (if b then timers else timers ++ id ∷ [])
    go true = h
    go false = one_of_left other timers (id ∷ []) h

keeps_timers : (news : List (MsgId × ℕ)) (timers : List MsgId) (other : MsgId) → IsOneOf other timers → IsOneOf other (with_timers news timers)
keeps_timers [] timers other h = h
keeps_timers (one ∷ news) timers other h = keeps_timers news (with_timer one.0 timers) other (keeps_one one.0 timers other h)

-- what is armed was armed before, or was announced
was_one : (id : MsgId) (timers : List MsgId) (other : MsgId) → IsOneOf other (with_timer id timers) → IsOneOf other timers ⊎ (other ≡ id)
was_one id timers other = go (has_id timers id)
  where
    go : (b : Bool) → IsOneOf other (if b then timers else timers ++ id ∷ []) → IsOneOf other timers ⊎ (other ≡ id)
    go true h = inl h
    go false h = elim (one_of_append other timers (id ∷ []) h) [ inl was ↦ inl was | inr (inl new) ↦ inr new | inr (inr none) ↦ absurd none ]

pub was_armed : (news : List (MsgId × ℕ)) (timers : List MsgId) (other : MsgId) →
    IsOneOf other (with_timers news timers) →
    IsOneOf other timers ⊎ ((round : ℕ) × IsOneOf (other, round) news)
was_armed [] timers other h = inl h
was_armed (one ∷ news) timers other h =
    elim (was_armed news (with_timer one.0 timers) other h) [
      | inl now ↦ elim (was_one one.0 timers other now) [ inl was ↦ inl was | inr new ↦ inr (one.1, inl (λ i. (new i, one.1))) ]
      | inr later ↦ inr (later.0, inr later.1)
    ]

-- ---- the step

-- what is news is lacked, and of another run
pub news_is : (g : GossipState) (id : MsgId) → is_news g id ≡ true → IsLacked g.known g.me id
news_is g id h =
    record { unknown = not_true (set.contains g.known id) (and_left (not (set.contains g.known id)) (not (same_origin id.origin g.me)) h); foreign = apart }
  where
    apart : id.origin ≢ g.me
    apart same =
        true≢false (sym ((same_origin-Decides id.origin g.me).1 same)
        ∙ not_true (same_origin id.origin g.me) (and_right (not (set.contains g.known id)) (not (same_origin id.origin g.me)) h))

-- and what is lacked, and of another run, is news
pub is_news_to : (g : GossipState) (id : MsgId) → set.contains g.known id ≡ false → id.origin ≢ g.me → is_news g id ≡ true
is_news_to g id lacks foreign = ap (λ b. not b && not (same_origin id.origin g.me)) lacks ∙ go (same_origin id.origin g.me) refl
  where
    go : (b : Bool) → same_origin id.origin g.me ≡ b → not b ≡ true
    go true same = absurd (foreign ((same_origin-Decides id.origin g.me).0 same))
    go false same = refl

module _ (g : GossipState) (active passive : List Name) (members : names g.peers.members ≡ active) (me : Origin)
    (framed : ℕ) (sender : Origin) (by : Origin) (number : ℕ) (dice : Dice) (entries : List (MsgId × ℕ)) where
  abbrev before : CoreState
  before = state_with active passive g

  abbrev frame : Frame
  frame = record { sender = by; number = number; body = IHave entries }

  abbrev Law : Outcome → Type 0
  Law done =
      StepLaws frame_content (state_with active passive g) (on.Arrive sender (record { sender = by; number = number; body = IHave entries }) dice)
      (numbered me framed done.sends) (delivered_at me done.delivered) (state_with active passive done.state)

  abbrev news : List (MsgId × ℕ)
  news = filter (λ entry. is_news g entry.0) entries

  -- a stranger announces
  strange : is_member g.peers.members sender.name ≡ false → Law (quiet g)
  strange lacks =
      leaves_all before (on.Arrive sender frame dice) [] refl refl tt tt (tt, keeps_all before)
      (λ name j round a is. true≢false
      (sym is ∙ ap (has_name active) a.0 ∙ sym (ap (λ ns. has_name ns sender.name) members) ∙ sym (is_member-names g.peers.members sender.name) ∙ lacks))
      tt
      (record { answers = λ j name a. absurd (false≢true (ap (λ o. is_some o) a.0)); only = tt })

  -- a member announces
  taken : Law (quiet (record g { missing = announced_all sender.name news g.missing }))
  taken =
      delivers_nothing before (on.Arrive sender frame dice) [] active passive g.peers.queued
      (with_wants sender.name news g.missing.wants) (with_timers news g.missing.timers) refl refl tt tt
      (record { appears = each_one _ g.peers.queued (λ entry h. inl h); leaves = (tt, keeps_all before) })
      (record {
        taken =
            λ name j round a is foreign lacks.
            subst (λ n. Stands j n (with_wants sender.name news g.missing.wants)) (sym a.0) (all_stand sender.name news g.missing.wants j round
            (one_of_passing (λ entry. is_news g entry.0) (j, round) entries a.1 (is_news_to g j lacks foreign)));
        appears =
            each_one _ (with_wants sender.name news g.missing.wants) (λ entry h. elim (stood sender.name news g.missing.wants entry h) [
              | inl was ↦ inl was
              | inr new ↦ inr (
                (new.0, (one_of_filter (λ e. is_news g e.0) (entry.0, entry.2) entries new.1).0),
                (news_is g entry.0 (one_of_filter (λ e. is_news g e.0) (entry.0, entry.2) entries new.1).1).foreign,
              )
            ]);
        arms =
            each_one _ (with_timers news g.missing.timers) (λ j h. elim (was_armed news g.missing.timers j h) [
              | inl was ↦ inl was
              | inr new ↦ inr (sender.name, all_stand sender.name news g.missing.wants j new.0 new.1)
            ]);
      })
      (record {
        fires = tt;
        entry_stays = each_one _ g.missing.wants (λ entry h. inl (stays sender.name news g.missing.wants entry h));
        timer_stays = each_one _ g.missing.timers (λ j h. inl (keeps_timers news g.missing.timers j h));
      })
      (record { answers = λ j name a. absurd (false≢true (ap (λ o. is_some o) a.0)); only = tt })

  pub hears_lawfully : Law (outcome g (call.OnIHave sender.name entries))
  hears_lawfully = go (is_member g.peers.members sender.name) refl
    where
      go : (b : Bool) →
          is_member g.peers.members sender.name ≡ b →
          Law (if b then quiet (record g { missing = announced_all sender.name news g.missing }) else quiet g)
      go true is = taken
      go false is = strange is
