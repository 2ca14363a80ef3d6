-- One more trace is played as far as it goes.
use Rattle.std.proofs.Common.{◌≡◌, ◌≢◌, ◌∙◌, ◌+◌, ◌<◌, ℕ, List, Ok, ap, arith, false, length, refl, subst, sym, true}
use Rattle.std.specs.Cmp.{unsigned_Decides}
use Rattle.std.specs.Prelude.{◌||◌, Bool, Option, Some, nat_eq, slice_get}
use Rattle.std.proofs.lemmas.Bool.{false≢true}
use Rattle.std.proofs.lemmas.Option.{slice_get_within}
use Rattle.protocol.specs.Trace.{Trace}
use Rattle.frames.specs.Frame.{Frame}
use Rattle.trace_merge.specs.Merging.{IsHeld, Merge, place_at}
use Rattle.trace_merge.specs.Steps.{Advances, Moves, Rests}
use Rattle.trace_merge.proofs.MoveLemmas.{moved_advances, moves_not, moves_on}
use Rattle.trace_merge.proofs.merging.Merging.pass.Goals as goal

-- The traces before a place are held.
abbrev AreHeldBefore : List (Trace Frame) → List (Option ℕ) → ℕ → Type 0
AreHeldBefore traces places at = (i : ℕ) (t : Trace Frame) → i < at → slice_get traces i ≡ Some t → IsHeld traces places t (place_at places i)

-- and so is the one there
held_more : (traces : List (Trace Frame)) (places : List (Option ℕ)) (at : ℕ) →
    AreHeldBefore traces places at →
    ((t : Trace Frame) → slice_get traces at ≡ Some t → IsHeld traces places t (place_at places at)) →
    AreHeldBefore traces places (at + 1)
held_more traces places at before here i t low at_i = go (nat_eq i at) refl
  where
    go : (b : Bool) → nat_eq i at ≡ b → IsHeld traces places t (place_at places i)
    go true is =
        let same : at ≡ i = sym ((unsigned_Decides i at).0 is) in
        subst (λ k. IsHeld traces places t (place_at places k)) same (here t (ap (slice_get traces) same ∙ at_i))
    go false is =
        let other : i ≢ at = (λ e. false≢true (sym is ∙ (unsigned_Decides i at).1 e)) in
        let less : i < at = grind (arith, low, other) in
        before i t less at_i

-- after the next trace
next :
    (traces : List (Trace Frame))
    (at : ℕ)
    (moved gone : Bool)
    (old now new : Merge) →
    Moves traces moved old now × (moved ≡ false → AreHeldBefore traces old.places at) →
    (gone ≡ true → Advances traces now new) →
    (gone ≡ false → Rests traces at now new) →
    Moves traces (moved || gone) old new × ((moved || gone) ≡ false → AreHeldBefore traces old.places (at + 1))
next traces at true true old now new so played waits = (moves_on traces true old now new so.0 (played refl), λ no. absurd (false≢true (sym no)))
next traces at false true old now new so played waits = (moves_on traces false old now new so.0 (played refl), λ no. absurd (false≢true (sym no)))
next traces at true false old now new so played waits = (moves_not traces true old now new so.0 (waits refl).same, λ no. absurd (false≢true (sym no)))
next traces at false false old now new so played waits =
    let still : now ≡ old = so.0.still refl in (
      moves_not traces false old now new so.0 (waits refl).same,
      λ none. held_more traces old.places at (so.1 refl)
          (subst (λ (m : Merge). (t : Trace Frame) → slice_get traces at ≡ Some t → IsHeld traces m.places t (place_at m.places at)) still (waits refl).held),
    )

pub loop-at-preserved : goal.loop-at-preserved
loop-at-preserved g c =
    let on =
    next c.args.traces.now c.loop-at.at c.loop-at.moved c.in_ok-moved.field-0 c.args.self.now c.loop-at.self c.play_on.new.self (
      c.loop-at.invariant.moves,
      c.loop-at.invariant.held,
    )
    (λ it. c.play_on.ensures.played (c.in_ok-moved.was ∙ ap Ok it))
    (λ it. c.play_on.ensures.waits (c.in_ok-moved.was ∙ ap Ok it)) in
    record { moves = on.0; held = on.1; left = c.in_ok-moved.ensures.left }

pub returns-clause-played : goal.returns-clause-played
returns-clause-played g c it =
    let is : c.loop-at.moved ≡ true = cc in
    moved_advances c.args.traces.now c.loop-at.moved c.args.self.now c.loop-at.self c.loop-at.invariant.moves is

pub returns-clause-waits : goal.returns-clause-waits
returns-clause-waits g c it i t at_i =
    let is : c.loop-at.moved ≡ false = cc in
    let within : i < length c.args.traces.now = slice_get_within c.args.traces.now i t at_i in
    let low : i < c.loop-at.at = omega (arith, within, c.loop-at-test.false) in
    c.loop-at.invariant.held is i t low at_i
