-- Two lists that are related place by place.
use Rattle.std.proofs.Common.{ℕ, ◌<◌, zero, suc, List, [], ◌∷◌, ◌++◌, length, get_or, take, arith}
use Rattle.std.specs.List.{AllZip}

-- one more place of the first list, and one more item of the second
pub AllZip-more : {A B : Type 0} (R : A → B → Type 0) (xs : List A) (bs : List B) (i : ℕ) (d : A) (b : B) →
    i < length xs →
    AllZip R (take i xs) bs →
    R (get_or xs i d) b →
    AllZip R (take (suc i) xs) (bs ++ b ∷ [])
AllZip-more R [] bs i d b h zip here = absurd (omega arith)
AllZip-more R (a ∷ xs) [] zero d b h zip here = (here, tt)
AllZip-more R (a ∷ xs) (c ∷ bs) zero d b h zip here = absurd zip
AllZip-more R (a ∷ xs) [] (suc i) d b h zip here = absurd zip
AllZip-more R (a ∷ xs) (c ∷ bs) (suc i) d b h zip here = (zip.0, AllZip-more R xs bs i d b (omega arith) zip.1 here)

-- each item of the first has one of the second
pub AllZip-at : {A B : Type 0} (R : A → B → Type 0) (xs : List A) (bs : List B) (i : ℕ) (d : A) → AllZip R xs bs → i < length xs → (b : B) × R (get_or xs i d) b
AllZip-at R [] bs i d zip h = absurd (omega arith)
AllZip-at R (a ∷ xs) [] i d zip h = absurd zip
AllZip-at R (a ∷ xs) (b ∷ bs) zero d zip h = (b, zip.0)
AllZip-at R (a ∷ xs) (b ∷ bs) (suc i) d zip h = AllZip-at R xs bs i d zip.1 (omega arith)
