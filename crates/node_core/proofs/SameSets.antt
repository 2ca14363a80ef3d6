-- Lists that name the same nodes.
use Rattle.std.proofs.Common.{◌≡◌, List, true, false, sym, refl}
use Rattle.std.specs.Prelude.{Bool, not}
use Rattle.node_names.specs.NodeName.{Name}
use Rattle.node_names.specs.Same.{has_name}
use Rattle.protocol.specs.SameNames.{SameNames}

-- two tests that imply each other are equal
equal_from_both : (a b : Bool) → (a ≡ true → b ≡ true) → (b ≡ true → a ≡ true) → a ≡ b
equal_from_both true b f g = sym (f refl)
equal_from_both false true f g = g refl
equal_from_both false false f g = refl

-- each list has what the other has
pub same_from_subsets : (names others : List Name) →
    ((q : Name) → has_name names q ≡ true → has_name others q ≡ true) →
    ((q : Name) → has_name others q ≡ true → has_name names q ≡ true) →
    SameNames names others
same_from_subsets names others f g name = equal_from_both (has_name names name) (has_name others name) (f name) (g name)

-- what is not true is false
pub was_true : (b : Bool) → not b ≡ false → b ≡ true
was_true true e = refl
was_true false e = sym e
