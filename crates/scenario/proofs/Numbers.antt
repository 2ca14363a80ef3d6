-- What a key holds as a number, it holds as no other.
use Rattle.std.proofs.Common.{◌≡◌, ◌^◌, ◌-◌, ℕ, pos, Some, None, Option, ◌∙◌, sym}
use Rattle.toml.specs.Data.{Data, integer, Members}
use Rattle.node_names.specs.Limits.{Limits as Sizes}
use Rattle.scenario.specs.Reading.{IsNumber}
use Rattle.scenario.specs.Scenario.{AreSizes, IsLimit}

same_number : (m n : ℕ) → Some (integer (pos m)) ≡ Some (integer (pos n)) → m ≡ n
same_number m n e = cc e

pub IsNumber-same : (most : ℕ) (found : Option Data) (m n : ℕ) → IsNumber most found m → IsNumber most found n → m ≡ n
IsNumber-same most found m n h k = same_number m n (sym h.0 ∙ k.0)

pub IsLimit-same : (most standard : ℕ) (found : Option Data) (m n : ℕ) → IsLimit most standard found m → IsLimit most standard found n → m ≡ n
IsLimit-same most standard None m n h k = h ∙ sym k
IsLimit-same most standard (Some d) m n h k = IsNumber-same most (Some d) m n h k

-- so a table gives one set of limits at most
pub AreSizes-same : (table : Members) (a b : Sizes) → AreSizes table a → AreSizes table b → a ≡ b
AreSizes-same table a b h k = λ i. record {
  active = IsLimit-same 255 5 _ a.active b.active h.active k.active i;
  passive = IsLimit-same 255 30 _ a.passive b.passive h.passive k.passive i;
  arwl = IsLimit-same 255 6 _ a.arwl b.arwl h.arwl k.arwl i;
  prwl = IsLimit-same 255 3 _ a.prwl b.prwl h.prwl k.prwl i;
  ka = IsLimit-same 255 3 _ a.ka b.ka h.ka k.ka i;
  kp = IsLimit-same 255 4 _ a.kp b.kp h.kp k.kp i;
  threshold = IsLimit-same (2 ^ 32 - 1) 0 _ a.threshold b.threshold h.threshold k.threshold i;
  keep = IsLimit-same (2 ^ 32 - 1) 0 _ a.keep b.keep h.keep k.keep i;
}
