-- Links that a node opens by itself, one after the other.
use Rattle.std.specs.Prelude.{◌≡◌, ◌<◌, ℕ, List, [], ◌∷◌, ◌++◌, Option, length, refl}
use Rattle.std.proofs.Common.{◌∙◌, ◌+◌, ap, append_assoc, arith, drop, get_or, length-append, inl, inr, subst, sym}
use Rattle.std.proofs.lemmas.List.{append-nil, drop-drop, drop_more}
use Rattle.node_names.specs.NodeName.{Name}
use Rattle.node_names.specs.declared.ids.MsgId.{MsgId}
use Rattle.protocol.specs.CoreState.{CoreState}
use Rattle.protocol.specs.Delivery.{Delivery}
use Rattle.protocol.specs.Stimulus.{Stimulus}
use Rattle.protocol.specs.Trace.{Step, Trace}
use Rattle.frames.specs.Frame.{Frame}
use Rattle.node_threads.specs.Applying.{Applies}
use Rattle.node_threads.specs.Cell.{Cell, IsPlace, lost}
use Rattle.node_threads.specs.Learning.{Learnt, Opens, OpensOne}

-- where no name may be held, none is opened
pub none_opened :
    {C : Type 0} (since : ℕ) (old : Cell C) (learnt : Learnt) (names : List Name) (new : Cell C) (learnt' : Learnt) (left : List Name)
    → learnt.most ≡ 0
    → Opens since old learnt names new learnt' left
    → (new ≡ old) × (learnt' ≡ learnt) × (left ≡ names)
none_opened since old learnt [] new learnt' left none all = all
none_opened since old learnt (name ∷ names) new learnt' left none (inl opened) = absurd (let fewer = opened.2.may_open.fewer in omega (arith, fewer, none))
none_opened since old learnt (name ∷ names) new learnt' left none (inr is_left) =
    let rest = none_opened since old learnt names new learnt' is_left.0 none is_left.2 in
    (rest.0, rest.1, is_left.1 ∙ ap (λ ns. name ∷ ns) rest.2)

-- names that agree from a place on do so from the next one on
pub past_it : (now all : List Name) (at : ℕ) → drop at now ≡ drop at all → drop (at + 1) now ≡ drop (at + 1) all
past_it now all at same = sym (drop-drop 1 at now) ∙ ap (drop 1) same ∙ drop-drop 1 at all

-- the name at a place from which on nothing was changed
pub name_here :
    (now all : List Name) (at : ℕ) (name : Name)
    → at < length all
    → length now ≡ length all
    → drop at now ≡ drop at all
    → name ≡ get_or now at name
    → drop at all ≡ name ∷ drop (at + 1) all
name_here now all at name within long same here =
    let inside : at < length now = omega (arith, within, long) in
    sym same
    ∙ drop_more now at name inside
    ∙ ap (λ n. n ∷ drop (at + 1) now) (sym here)
    ∙ ap (λ names. name ∷ names) (past_it now all at same)

module _ {C : Type 0} (since : ℕ) where
  -- opening these names from here on, where those before left some, opens all
  abbrev pub OpensOn : Cell C → Learnt → List Name → Cell C → Learnt → List Name → List Name → Type 0
  OpensOn first kept all now more rest left =
      (last : Cell C) (learnt : Learnt) (others : List Name) →
      Opens since now more rest last learnt others →
      Opens since first kept all last learnt (left ++ others)

  pub opens_on :
      (first : Cell C) (kept : Learnt) (all : List Name) (now : Cell C) (more : Learnt)
      (rest rest' left : List Name) (name : Name) (next : Cell C) (more' : Learnt)
      → rest ≡ name ∷ rest'
      → OpensOn first kept all now more rest left
      → OpensOne since now more name next more'
      → OpensOn first kept all next more' rest' left
  opens_on first kept all now more rest rest' left name next more' is on opened last learnt others opens =
      on last learnt others (subst (λ names. Opens since now more names last learnt others) (sym is) (inl (next, more', opened, opens)))

  pub leaves_on :
      (first : Cell C) (kept : Learnt) (all : List Name) (now : Cell C) (more : Learnt) (rest rest' left : List Name) (name : Name)
      → rest ≡ name ∷ rest'
      → OpensOn first kept all now more rest left
      → OpensOn first kept all now more rest' (left ++ name ∷ [])
  leaves_on first kept all now more rest rest' left name is on last learnt others opens =
      subst (λ names. Opens since first kept all last learnt names) (sym (append_assoc left (name ∷ []) others))
      (on last learnt (name ∷ others) (subst (λ names. Opens since now more names last learnt (name ∷ others)) (sym is) (inr (others, refl, opens))))

  pub opens_end :
      (first : Cell C) (kept : Learnt) (all : List Name) (now : Cell C) (more : Learnt) (rest left : List Name)
      → rest ≡ []
      → OpensOn first kept all now more rest left
      → Opens since first kept all now more left
  opens_end first kept all now more rest left is on =
      subst (λ names. Opens since first kept all now more names) (append-nil left)
      (on now more [] (subst (λ names. Opens since now more names now more []) (sym is) (refl, refl, refl)))

  -- the trace is as long after a link was opened
  pub still_within : (now : Cell C) (more : Learnt) (name : Name) (next : Cell C) (more' : Learnt) →
      OpensOne since now more name next more' →
      IsPlace now since →
      IsPlace next since
  still_within now more name next more' opened within = subst (λ cell. IsPlace cell since) (sym opened.linked) within

-- the place of a step is a place of the node after it
pub its_own_place :
    {C : Type 0} (state : C → CoreState) (steps : C → Stimulus Frame → List (Name × Frame) → List Delivery → C → Type 0)
    (old : Cell C) (stimulus : Stimulus Frame) (new : Cell C) (id : Option MsgId) (place : ℕ) (full lacking : List Name)
    → Applies state steps old stimulus new id place full lacking
    → IsPlace new place
its_own_place state steps old stimulus new id place full lacking done =
    let same : lost new.since ≡ lost old.since = ap lost done.its_since in
    let step : Step Frame = record { stimulus = stimulus; out = done.out } in
    let long : length new.trace.steps ≡ length (old.trace.steps ++ step ∷ []) = ap (λ (trace : Trace Frame). length trace.steps) done.recorded in
    let here = done.its_place in
    (omega (arith, same, here), omega (arith, same, here, long, length-append old.trace.steps (step ∷ [])))
