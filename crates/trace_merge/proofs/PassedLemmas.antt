-- What holds of all traces before a place, and of the one there.
use Rattle.std.proofs.Common.{◌≡◌, ◌≢◌, ◌∙◌, ◌+◌, ◌<◌, ℕ, List, ap, arith, false, get_or, refl, subst, sym, true}
use Rattle.std.specs.Cmp.{unsigned_Decides}
use Rattle.std.specs.Prelude.{Bool, Some, nat_eq, slice_get}
use Rattle.std.proofs.lemmas.Bool.{false≢true}
use Rattle.std.proofs.lemmas.Option.{get_or_from_slice_get}

-- what holds of each element before a place and of the one there holds of each before the next place
pub passed_more : {X : Type 0} (P : ℕ → X → Type 0) (xs : List X) (at : ℕ) (x : X) →
    x ≡ get_or xs at x →
    ((i : ℕ) (y : X) → i < at → slice_get xs i ≡ Some y → P i y) →
    P at x →
    (i : ℕ) (y : X) →
    i < at + 1 →
    slice_get xs i ≡ Some y →
    P i y
passed_more {X} P xs at x is before here i y below listed = go (nat_eq i at) refl
  where
    go : (b : Bool) → nat_eq i at ≡ b → P i y
    go true e =
        let same : i ≡ at = (unsigned_Decides i at).0 e in
        let its : x ≡ y = is ∙ ap (λ k. get_or xs k x) (sym same) ∙ get_or_from_slice_get xs i y x listed in
        subst (λ k. P k y) (sym same) (subst (λ z. P at z) its here)
    go false e =
        let other : i ≢ at = (λ p. false≢true (sym e ∙ (unsigned_Decides i at).1 p)) in
        let earlier : i < at = omega arith in
        before i y earlier listed
