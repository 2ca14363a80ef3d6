-- What leaves a flight whose front has left already.
use Rattle.std.proofs.Common.{◌≡◌, ◌+◌, ℕ, List, [], ◌∷◌, drop, zero, suc, refl, sym, ap, ◌∙◌, arith}
use Rattle.std.specs.Prelude.{remove}

-- one more has left from the front
front : (gone : ℕ) (numbers : List ℕ) → drop (suc gone) numbers ≡ remove (drop gone numbers) 0
front zero numbers = refl
front (suc gone) [] = refl
front (suc gone) (n ∷ numbers) = front gone numbers

pub front_leaves : (gone : ℕ) (numbers : List ℕ) (place : ℕ) → place ≡ 0 → drop (gone + 1) numbers ≡ remove (drop gone numbers) place
front_leaves gone numbers place e =
    let next : gone + 1 ≡ suc gone = omega arith in
    ap (λ k. drop k numbers) next ∙ front gone numbers ∙ ap (remove (drop gone numbers)) (sym e)

-- nothing leaves an empty flight
nothing_leaves : (place : ℕ) → remove {X = ℕ} [] place ≡ []
nothing_leaves zero = refl
nothing_leaves (suc place) = refl

-- one behind the front leaves
pub one_leaves : (gone : ℕ) (numbers : List ℕ) (place at : ℕ) → at ≡ gone + place → drop gone (remove numbers at) ≡ remove (drop gone numbers) place
one_leaves zero numbers place at e = let same : at ≡ place = omega arith in ap (remove numbers) same
one_leaves (suc gone) [] place at e = ap (drop (suc gone)) (nothing_leaves at) ∙ sym (nothing_leaves place)
one_leaves (suc gone) (n ∷ numbers) place zero e = absurd (omega arith)
one_leaves (suc gone) (n ∷ numbers) place (suc at) e = one_leaves gone numbers place at (omega arith)
