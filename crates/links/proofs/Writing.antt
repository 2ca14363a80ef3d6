-- Items that are written one after the other.
use Rattle.std.proofs.Common.{◌≡◌, ℕ, ◌+◌, ◌-◌, ◌<◌, ◌≤◌, List, [], ◌∷◌, ◌++◌, length, take, drop, Option, Err, refl, sym, ap, subst, ◌∙◌, arith}
use Rattle.std.specs.Io.KnownBytes.{Appends}
use Rattle.std.proofs.KnownBytes.{Appends-trans}
use Rattle.std.proofs.Math.ListN.{drop_of_length-le}
use Rattle.std.proofs.Math.Seq.{take-add, take-append-add}
use Rattle.std.proofs.lemmas.Grind.{flat_map-append}
use Rattle.std.proofs.lemmas.List.{length-append, length-drop, append-nil, take-append-drop}
use Rattle.std.proofs.lemmas.List.Concat.{flat_map-cons}
use Rattle.links.specs.declared.ends.LinkEnd.TheVariants.{WriteFault}
use Rattle.links.specs.Draining.{joined, Drains}

-- all of a list
take_whole : (n : ℕ) (xs : List ℕ) → length xs ≤ n → take n xs ≡ xs
take_whole n xs h = sym (append-nil (take n xs)) ∙ ap (λ t. take n xs ++ t) (sym (drop_of_length-le xs h)) ∙ take-append-drop n xs

-- one more call of the writer
pub put_on : (a b c : Option (List ℕ)) (bytes : List ℕ) (at n : ℕ) →
    at ≤ length bytes →
    Appends a b (take at bytes) →
    n ≤ length (take (length bytes - at) (drop at bytes))
    → Appends b c (take n (take (length bytes - at) (drop at bytes))) → (at + n ≤ length bytes) × Appends a c (take (at + n) bytes)
put_on a b c bytes at n h p few q =
    let all : take (length bytes - at) (drop at bytes) ≡ drop at bytes = take_whole (length bytes - at) (drop at bytes) (omega (arith, length-drop at bytes)) in
    let size : n ≤ length (drop at bytes) = subst (λ t. n ≤ length t) all few in
    let q' : Appends b c (take n (drop at bytes)) = subst (λ t. Appends b c (take n t)) all q in (
      omega (arith, size, length-drop at bytes),
      subst (Appends a c) (sym (take-add at n bytes)) (Appends-trans a b c (take at bytes) (take n (drop at bytes)) p q'),
    )

-- the bytes of one more item
pub joined-more : (items : List (List ℕ)) (item : List ℕ) → joined (items ++ item ∷ []) ≡ joined items ++ item
joined-more items item = flat_map-append (λ i. i) items (item ∷ []) ∙ ap (λ t. joined items ++ t) (flat_map-cons (λ i. i) item [] ∙ append-nil item)

-- an item went out whole
pub drained_on : (a b c : Option (List ℕ)) (items : List (List ℕ)) (item : List ℕ) (bytes n : ℕ) →
    Appends a b (joined items) →
    Appends b c (take n item) →
    n ≤ length item →
    length item ≤ n →
    bytes ≡ length (joined items)
    → Appends a c (joined (items ++ item ∷ [])) × (bytes + n ≡ length (joined (items ++ item ∷ [])))
drained_on a b c items item bytes n p q few whole size =
    let all : take n item ≡ item = take_whole n item whole in (
      subst (Appends a c) (sym (joined-more items item)) (Appends-trans a b c (joined items) item p (subst (Appends b c) all q)),
      omega (arith, ap length (joined-more items item), length-append (joined items) item, few, whole, size),
    )

-- an item went out in part
pub drained_in_part : (is_spent : Type 0) (frames : ℕ) (given given' : List (List ℕ))
    (a b c : Option (List ℕ)) (items : List (List ℕ)) (item : List ℕ) (bytes n : ℕ)
    → given' ≡ given ++ (items ++ item ∷ [])
    → length items < frames
    → Appends a b (joined items)
    → Appends b c (take n item)
    → n < length item
    → bytes ≡ length (joined items)
    → Drains (Err (WriteFault (bytes + n))) is_spent frames given given' a c
drained_in_part is_spent frames given given' a b c items item bytes n asked few p q part size =
    let front : take (bytes + n) (joined (items ++ item ∷ [])) ≡ joined items ++ take n item =
    ap (take (bytes + n)) (joined-more items item) ∙ ap (λ k. take (k + n) (joined items ++ item)) size ∙ take-append-add (joined items) item n in
    record {
      items = items ++ item ∷ [];
      bytes = bytes + n;
      asked = asked;
      few = omega (arith, length-append items (item ∷ []), few);
      written = subst (Appends a c) (sym front) (Appends-trans a b c (joined items) (take n item) p q);
      ends = (omega (arith, ap length (joined-more items item), length-append (joined items) item, part, size), refl);
    }
