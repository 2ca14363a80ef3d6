-- Lists of borrowed items, and the lists of the items; the deliveries of a log.
use Rattle.std.proofs.Common.{◌≡◌, ◌∙◌, ◌+◌, ◌<◌, ℕ, suc, List, [], ◌∷◌, ◌++◌, get_or, length, map, take, ap, sym, refl, append_assoc, arith}
use Rattle.std.specs.List.Sorted.{IsSortedBy}
use Rattle.std.specs.Prelude.{Bool, reverse}
use Rattle.std.proofs.lemmas.List.{get_or-map, map-append, reverse-append, take_more}
use Rattle.world.specs.Entry.{Entry}
use Rattle.world.specs.History.{deliveries}

-- one item more
pub mapped-more : {X Y : Type 0} (f : X → Y) (old : List Y) (now new : List X) (ys : List Y) (i : ℕ) (x : X) →
    i < length ys →
    new ≡ now ++ x ∷ [] →
    f x ≡ get_or ys i (f x) →
    map f now ≡ old ++ take i ys →
    map f new ≡ old ++ take (i + 1) ys
mapped-more {X} {Y} f old now new ys i x within pushed at before =
    ap (map f) pushed
    ∙ map-append f now (x ∷ [])
    ∙ ap (λ (zs : List Y). zs ++ f x ∷ []) before
    ∙ append_assoc old (take i ys) (f x ∷ [])
    ∙ ap (λ (zs : List Y). old ++ zs) (ap (λ (y : Y). take i ys ++ y ∷ []) at ∙ sym (take_more ys i (f x) within))

length-mapped : {X Y : Type 0} (f : X → Y) (xs : List X) → length (map f xs) ≡ length xs
length-mapped f [] = refl
length-mapped f (x ∷ xs) = ap suc (length-mapped f xs)

first_of : {X : Type 0} (xs : List X) (k : ℕ) → k < length xs → X
first_of [] k within = absurd (omega arith)
first_of (x ∷ xs) k within = x

-- where items are in order by what they are mapped to, the mapped ones are in order
pub mapped-sorted : {X Y : Type 0} (f : X → Y) (lt : Y → Y → Bool) (xs : List X) → IsSortedBy (λ a b. lt (f a) (f b)) xs → IsSortedBy lt (map f xs)
mapped-sorted {X} {Y} f lt xs sorted k d low within =
    let as_many : length (map f xs) ≡ length xs = length-mapped f xs in
    let here : k + 1 < length xs = omega (arith, as_many, within) in
    let e : X = first_of xs (k + 1) here in
    ap (λ (y : Y). lt y (get_or (map f xs) k d)) (get_or-map f xs (k + 1) e d here)
    ∙ ap (λ (y : Y). lt (f (get_or xs (k + 1) e)) y) (get_or-map f xs k e d (omega (arith, here)))
    ∙ sorted k e low here

-- the deliveries of a log, one entry longer
pub deliveries-more : (log : List Entry) (i : ℕ) (entry : Entry) →
    i < length log →
    entry ≡ get_or log i entry →
    deliveries (reverse (take (i + 1) log)) ≡ deliveries (reverse (take i log)) ++ entry.given
deliveries-more log i entry within at =
    ap (λ (es : List Entry). deliveries (reverse es)) (take_more log i entry within ∙ ap (λ (e : Entry). take i log ++ e ∷ []) (sym at))
    ∙ ap deliveries (reverse-append (take i log) (entry ∷ []))
