-- The numbers of a node whose frames and messages have numbers of 64 bits are not used up.
use Rattle.std.proofs.Common.{◌≡◌, ◌∙◌, ◌+◌, ◌-◌, ◌^◌, ◌<◌, ◌≤◌, ℕ, suc, List, [], ◌∷◌, ap, arith, inl, inr, length, refl, subst, sym, take}
use Rattle.std.specs.List.{flat_map}
use Rattle.std.specs.Prelude.{◌⊎◌, Option, Some, None, slice_get}
use Rattle.node_names.specs.NodeName.{Name}
use Rattle.node_names.specs.Limits.{Limits}
use Rattle.node_names.specs.declared.ids.Origin.{Origin}
use Rattle.node_names.specs.declared.ids.MsgId.{MsgId}
use Rattle.protocol.specs.Delivery.{Delivery}
use Rattle.protocol.specs.DeliveryLaw.{ids}
use Rattle.protocol.specs.IdentityLaw.{IsOutOfNumbers}
use Rattle.protocol.specs.Lists.{IsOneOf}
use Rattle.protocol.specs.PayloadLaw.{next_id}
use Rattle.protocol.specs.Replay.{Leads, Replays}
use Rattle.protocol.specs.Stimulus.{Stimulus}
use Rattle.protocol.specs.Trace.{Step, Trace}
use Rattle.protocol.specs.declared.stimulus.StimulusOf.TheVariants.{Broadcast, Arrive, Fire, Flush, Down, Shuffle, Join}
use Rattle.frames.specs.Body.{Body}
use Rattle.frames.specs.Frame.{Frame}
use Rattle.node_core.specs.Plum.{Plum, plum_state}
use Rattle.node_core.specs.impl_proofs.PlumDelivers.{plum_delivers_one}
use Rattle.node_core.specs.Steps.{PlumIsSpent, PlumStarts, PlumSteps, numbered, opening, turned}
use Rattle.trace_merge.specs.Merging.{cut, sent_within}
use Rattle.trace_merge.specs.Numbers.{AreFew, AreShort, greatest}
use Rattle.trace_merge.proofs.ListLemmas.{one_of-left, one_of-right}
use Rattle.trace_merge.proofs.PlaceLemmas.{sent_within-suc}

-- A frame with this number is among the sends.
abbrev pub HasNumber : ℕ → List (Name × Frame) → Type 0
HasNumber n sends = (send : Name × Frame) × IsOneOf send sends × (send.1.number ≡ n)

-- bodies that are numbered end with the last number
numbered_last : (me : Origin) (framed : ℕ) (first : Name × Body) (bodies : List (Name × Body)) →
    HasNumber (framed + suc (length bodies)) (numbered me framed (first ∷ bodies))
numbered_last me framed first [] = let one : framed + 1 ≡ framed + suc 0 = omega arith in (_, inl refl, one)
numbered_last me framed first (next ∷ bodies) =
    let rest = numbered_last me (framed + 1) next bodies in
    let same : framed + 1 + suc (length bodies) ≡ framed + suc (suc (length bodies)) = omega arith in
    (rest.0, inr rest.1, rest.2 ∙ same)

-- so a core that has sent frames has sent one with the number that it stands at
numbered_at : (me : Origin) (framed : ℕ) (bodies : List (Name × Body)) → (length bodies ≡ 0) ⊎ HasNumber (framed + length bodies) (numbered me framed bodies)
numbered_at me framed [] = inl refl
numbered_at me framed (first ∷ bodies) = inr (numbered_last me framed first bodies)

-- The core stands where the other did, or at the number of one of these frames.
abbrev pub StandsAt : ℕ → ℕ → List (Name × Frame) → Type 0
StandsAt before now sends = (now ≡ before) ⊎ HasNumber now sends

leads_at : (first : Plum) (steps : List (Step Frame)) (last : Plum) →
    Leads PlumSteps first steps last →
    StandsAt first.framed last.framed (flat_map (λ (s : Step Frame). s.out.sends) steps)
leads_at first [] last leads = inl (ap (λ (p : Plum). p.framed) leads)
leads_at first (s ∷ steps) last (next, step, rest) =
    let sends : Step Frame → List (Name × Frame) = λ (x : Step Frame). x.out.sends in
    let bodies : List (Name × Body) = (turned first.me first.membership first.gossip s.stimulus).sends in
    let far : next.framed ≡ first.framed + length bodies = ap (λ (p : Plum). p.framed) step.leaves in
    elim (leads_at next steps last rest) [
      | inl same ↦
          (elim (numbered_at first.me first.framed bodies) [
            | inl none ↦ (let still : last.framed ≡ first.framed = omega (arith, same, far, none) in inl still)
            | inr has ↦ (let now : first.framed + length bodies ≡ last.framed = sym (same ∙ far) in
                inr (has.0, one_of-left has.0 s.out.sends (flat_map sends steps) (subst (IsOneOf has.0) (sym step.sent) has.1), has.2 ∙ now))
          ])
      | inr has ↦ inr (has.0, one_of-right has.0 s.out.sends (flat_map sends steps) has.1, has.2)
    ]

opening_at : (me : Origin) (contact : Option Name) → StandsAt 0 (0 + length (opening contact)) (numbered me 0 (opening contact))
opening_at me None = inl refl
opening_at me (Some contact) = inr (_, inl refl, refl)

-- a core that a trace leads to stands at a number of 64 bits, if the trace's frames do
pub framed_short : (limits : Limits) (t : Trace Frame) (k : ℕ) (core : Plum) →
    Replays PlumStarts PlumSteps limits (cut k t) core →
    AreShort (sent_within k t) →
    core.framed ≤ greatest
framed_short limits t k core r short =
    let start : r.first.framed ≡ 0 + length (opening t.contact) = ap (λ (p : Plum). p.framed) r.started.leaves in
    elim (leads_at r.first (take k t.steps) core r.leads) [
      | inl same ↦
          (elim (opening_at t.origin t.contact) [
            | inl none ↦ omega (arith, same, start, none)
            | inr has ↦
                (let low : has.0.1.number ≤ greatest = short has.0 (one_of-left has.0 t.opening.sends _ (subst (IsOneOf has.0) (sym r.started.sent) has.1)) in
                omega (arith, same, start, has.2, low))
          ])
      | inr has ↦
          (let low : has.0.1.number ≤ greatest =
          short has.0 (one_of-right has.0 t.opening.sends (flat_map (λ (s : Step Frame). s.out.sends) (take k t.steps)) has.1) in
          omega (arith, has.2, low))
    ]

-- a message that has a number of 64 bits is not the one past the last
one_more : (given : List Delivery) (id : MsgId) → ids given ≡ id ∷ [] → AreFew given → greatest < id.seq → ⊥
one_more [] id is few past = let none : [] ≡ id ∷ [] = is in cc
one_more (d ∷ given) id is few past =
    let heads : d.id ∷ ids given ≡ id ∷ [] = is in
    let same : d.id ≡ id = cc in
    let seq : d.id.seq ≡ id.seq = ap (λ (i : MsgId). i.seq) same in
    let low : d.id.seq ≤ greatest = few d (inl refl) in
    omega (arith, seq, low, past)

-- a step whose frames and messages have numbers of 64 bits has used up none
pub never_spent : (limits : Limits) (t : Trace Frame) (k : ℕ) (s : Step Frame) (core last : Plum) →
    slice_get t.steps k ≡ Some s →
    Replays PlumStarts PlumSteps limits (cut k t) core →
    PlumSteps core s.stimulus s.out.sends s.out.deliveries last →
    AreShort (sent_within (suc k) t) → AreFew s.out.deliveries → PlumIsSpent core s.stimulus → ⊥
never_spent limits t k s core last at r step short few spent =
    elim spent [
      | inl messages ↦ out_of s.stimulus refl messages
      | inr frames ↦
          (let bodies : List (Name × Body) = (turned core.me core.membership core.gossip s.stimulus).sends in
          let before : core.framed ≤ greatest =
          framed_short limits t k core r
          (λ send one. short send (subst (IsOneOf send) (sym (sent_within-suc t k s at)) (one_of-left send (sent_within k t) s.out.sends one))) in
          elim (numbered_at core.me core.framed bodies) [
            | inl none ↦ (let many : 2 ^ 64 - 1 < core.framed + length bodies = frames in omega (arith, none, before, many))
            | inr has ↦
                (let low : has.0.1.number ≤ greatest = short has.0 (subst (IsOneOf has.0) (sym (sent_within-suc t k s at))
                (one_of-right has.0 (sent_within k t) s.out.sends (subst (IsOneOf has.0) (sym step.sent) has.1))) in
                let many : 2 ^ 64 - 1 < core.framed + length bodies = frames in
                omega (arith, has.2, low, many))
          ])
    ]
  where
    out_of : (told : Stimulus Frame) → s.stimulus ≡ told → IsOutOfNumbers (plum_state core) told → ⊥
    out_of (Broadcast payload) is out =
        let gives : ids s.out.deliveries ≡ next_id (plum_state core) ∷ [] =
        plum_delivers_one.of_broadcast core payload s.out.sends s.out.deliveries last
        (subst (λ told. PlumSteps core told s.out.sends s.out.deliveries last) is step) in
        one_more s.out.deliveries (next_id (plum_state core)) gives few (let full : (plum_state core).count ≡ 2 ^ 64 - 1 = out.1 in omega (arith, full))
    out_of (Arrive sender note dice) is out = out
    out_of (Fire id) is out = out
    out_of Flush is out = out
    out_of (Down peer dice) is out = out
    out_of (Shuffle dice) is out = out
    out_of (Join contact) is out = out
