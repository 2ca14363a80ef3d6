-- What is known of an input of which the first bytes were read.
use Rattle.std.proofs.Common.{◌≡◌, ◌∙◌, ◌+◌, ◌≤◌, ℕ, List, [], ◌++◌, length, take, Option, Some, None, ap, arith, subst}
use Rattle.std.specs.Option.{IfSome, option_map}
use Rattle.std.proofs.lemmas.List.{length-take, take_all}

-- the bytes that were read are the first ones
pub first_bytes : (known same : Option (List ℕ)) (limit most : ℕ) (before read : List ℕ) →
    same ≡ known →
    limit ≡ most →
    before ≡ [] →
    IfSome (option_map (take limit) same) (λ xs. read ≡ before ++ xs) →
    IfSome known (λ rest. read ≡ take most rest)
first_bytes known same limit most before read is limited empty given =
    go known (subst (λ o. IfSome (option_map (take limit) o) (λ xs. read ≡ before ++ xs)) is given)
  where
    go : (o : Option (List ℕ)) → IfSome (option_map (take limit) o) (λ xs. read ≡ before ++ xs) → IfSome o (λ rest. read ≡ take most rest)
    go None h = tt
    go (Some rest) h = h ∙ ap (λ (b : List ℕ). b ++ take limit rest) empty ∙ ap (λ n. take n rest) limited

-- if fewer bytes came than were wanted, they are all there are
pub all_bytes : (known : Option (List ℕ)) (read : List ℕ) (most : ℕ) (P : List ℕ → Type 0) →
    IfSome known (λ rest. read ≡ take (most + 1) rest) →
    length read ≤ most →
    P read →
    IfSome known P
all_bytes None read most P first short holds = tt
all_bytes (Some rest) read most P first short holds =
    let count = length-take (most + 1) rest in
    let as_long : length read ≡ length (take (most + 1) rest) = ap length first in
    subst P (first ∙ take_all (most + 1) rest (omega (arith, count, as_long, short))) holds
