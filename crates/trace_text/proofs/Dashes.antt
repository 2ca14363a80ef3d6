-- A dash if a list that was appended has no items.
use Rattle.std.proofs.Common.{◌≡◌, ℕ, ◌<◌, ◌∙◌, false, Bool, List, [], ◌∷◌, ◌++◌, length, codes}
use Rattle.std.proofs.Common.{nat_eq, if◌then◌else◌, ap, refl, append-nil, length-append, arith}
use Rattle.std.proofs.lemmas.Bool.{eq-eqb}
use Rattle.std.proofs.lemmas.Bool.Decides.{nat_tests}
use Rattle.trace_text.specs.Names.{or_dash}

apart : (n m : ℕ) → m < n → nat_eq n m ≡ false
apart n m h = grind (arith, nat_tests)

-- what is appended behind items is a dash where there is no item
dash_at : (old items : List ℕ) → (old ++ items) ++ (if nat_eq (length (old ++ items)) (length old) then codes " -" else []) ≡ old ++ or_dash items
dash_at old [] = rw append-nil (ap (λ (b : Bool). old ++ (if b then codes " -" else [])) (eq-eqb (length old) (length old) refl))
dash_at old (b ∷ bs) =
    ap (λ (c : Bool). (old ++ b ∷ bs) ++ (if c then codes " -" else [])) (apart (length (old ++ b ∷ bs)) (length old) (simp length-append (omega arith)))
    ∙ append-nil (old ++ b ∷ bs)

-- the same, step by step
pub dashed : (new mid old items : List ℕ) (start : ℕ) →
    new ≡ mid ++ (if nat_eq (length mid) start then codes " -" else []) →
    mid ≡ old ++ items →
    start ≡ length old →
    new ≡ old ++ or_dash items
dashed new mid old items start a b c = rw (a, b, c) (dash_at old items)
