-- What is played on is played on from where it began.
use Rattle.std.proofs.Common.{◌≡◌, ◌∙◌, ◌<◌, List, arith, false, refl, subst, sym, true}
use Rattle.std.specs.Prelude.{Bool}
use Rattle.protocol.specs.Trace.{Trace}
use Rattle.frames.specs.Frame.{Frame}
use Rattle.trace_merge.specs.Merging.{IsMerging, Merge, Refuses, remaining}
use Rattle.trace_merge.specs.Steps.{Advances, Moves}
use Rattle.trace_merge.specs.declared.fault.MergeFault.{MergeFault}

-- nothing is moved yet
pub moves_none : (traces : List (Trace Frame)) (m : Merge) → IsMerging m.world.limits traces m → Moves traces false m m
moves_none traces m mm = record { limits = refl; merging = mm; falls = λ no. (let never : ⊥ = cc in absurd never); still = λ it. refl }

-- something more is played
pub moves_on : (traces : List (Trace Frame)) (moved : Bool) (old now new : Merge) →
    Moves traces moved old now →
    Advances traces now new →
    Moves traces true old new
moves_on traces moved old now new so on =
    record {
      limits = on.limits ∙ so.limits;
      merging = subst (λ l. IsMerging l traces new) so.limits on.merging;
      falls = λ it. falls moved refl;
      still = λ no. (let never : ⊥ = cc in absurd never);
    }
  where
    falls : (b : Bool) → moved ≡ b → remaining traces new.places < remaining traces old.places
    falls true is =
        (let a : remaining traces now.places < remaining traces old.places = so.falls is in
        let b : remaining traces new.places < remaining traces now.places = on.falls in omega (arith, a, b))
    falls false is = subst (λ (m : Merge). remaining traces new.places < remaining traces m.places) (so.still is) on.falls

-- nothing more is played
pub moves_not : (traces : List (Trace Frame)) (moved : Bool) (old now new : Merge) → Moves traces moved old now → new ≡ now → Moves traces moved old new
moves_not traces moved old now new so same = subst (Moves traces moved old) (sym same) so

-- what was moved has advanced
pub moved_advances : (traces : List (Trace Frame)) (moved : Bool) (old new : Merge) → Moves traces moved old new → moved ≡ true → Advances traces old new
moved_advances traces moved old new so is = record { limits = so.limits; merging = so.merging; falls = so.falls is }

-- a refusal later on is one from where it began
pub refuses_from : (traces : List (Trace Frame)) (moved : Bool) (old now : Merge) (fault : MergeFault) →
    Moves traces moved old now →
    Refuses now.world.limits traces fault →
    Refuses old.world.limits traces fault
refuses_from traces moved old now fault so refuses = subst (λ l. Refuses l traces fault) so.limits refuses
