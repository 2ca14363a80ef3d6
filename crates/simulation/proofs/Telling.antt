-- Whether a group is at rest, as a test tells it.
use Rattle.std.proofs.Common.{◌≡◌, refl}
use Rattle.std.specs.Prelude.{◌↔◌, Bool, true, false, not, IsTrue}

-- a test that is the negation of another tells what that one's failing tells
pub told_rest : (rest unrest : Bool) (P : Type 0) → rest ≡ not unrest → (unrest ≡ false) ↔ P → IsTrue rest ↔ P
told_rest rest true P is both = (λ holds. absurd (cc (is, holds)), λ p. absurd (cc (both.1 p)))
told_rest rest false P is both = (λ holds. both.0 refl, λ p. is)
