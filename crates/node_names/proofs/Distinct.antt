-- Lists in which nothing is there twice.
use Rattle.std.proofs.Common.{◌≡◌, ◌∙◌, ◌||◌, ◌<◌, ℕ, Bool, true, false, cond, List, [], ◌∷◌, ◌++◌, length, get_or, take}
use Rattle.std.proofs.Common.{filter, map, sym, ap, subst, arith, refl, get_or-take, length-take, append_assoc, append-nil}
use Rattle.std.proofs.lemmas.List.Elements.{All-from_get_or}
use Rattle.std.proofs.lemmas.List.Folds.{list_any_none, list_any-append}
use Rattle.std.proofs.lemmas.Map.Keys.{apart_from_distinct, IsDistinct-head, IsDistinct-tail, IsDistinct-cons, IsDistinct-push}
use Rattle.std.specs.Cmp.{IsEquivalence}
use Rattle.std.specs.List.{AllByRecursion as Each, IsDistinct, list_any}

-- nothing before a place is what stands there
pub new_to_those_before : {K : Type 0} {eq : K → K → Bool} (laws : IsEquivalence eq) (keys : List K) (i : ℕ) (d : K) →
    IsDistinct eq keys →
    i < length keys →
    list_any (eq (get_or keys i d)) (take i keys) ≡ false
new_to_those_before {K} {eq} laws keys i d distinct within =
    list_any_none (eq (get_or keys i d)) (take i keys) (All-from_get_or (λ other. eq (get_or keys i d) other ≡ false) (take i keys) d earlier)
  where
    earlier : (k : ℕ) → k < length (take i keys) → eq (get_or keys i d) (get_or (take i keys) k d) ≡ false
    earlier k h =
        let before : k < i = omega (arith, h, length-take i keys) in
        laws.symm (get_or keys i d) (get_or (take i keys) k d)
        ∙ ap (λ other. eq other (get_or keys i d)) (get_or-take i keys k d before)
        ∙ apart_from_distinct eq keys k i d distinct before within

-- ---- what holds of each element

-- what holds of everything of which something holds
pub each-weaker : {X : Type 0} (P Q : X → Type 0) → ((x : X) → P x → Q x) → (xs : List X) → Each P xs → Each Q xs
each-weaker P Q f [] h = tt
each-weaker P Q f (x ∷ xs) h = (f x h.0, each-weaker P Q f xs h.1)

-- two facts of each element
pub each-both : {X : Type 0} (P Q R : X → Type 0) → ((x : X) → P x → Q x → R x) → (xs : List X) → Each P xs → Each Q xs → Each R xs
each-both P Q R f [] h k = tt
each-both P Q R f (x ∷ xs) h k = (f x h.0 k.0, each-both P Q R f xs h.1 k.1)

pub each-map : {X Y : Type 0} (f : X → Y) (P : Y → Type 0) (xs : List X) → Each (λ x. P (f x)) xs → Each P (map f xs)
each-map f P [] h = tt
each-map f P (x ∷ xs) h = (h.0, each-map f P xs h.1)

pub each-append : {X : Type 0} (P : X → Type 0) (xs ys : List X) → Each P xs → Each P ys → Each P (xs ++ ys)
each-append P [] ys h k = k
each-append P (x ∷ xs) ys h k = (h.0, each-append P xs ys h.1 k)

-- what a filter leaves has passed it
pub each-filter : {X : Type 0} (P Q : X → Type 0) (test : X → Bool) →
    ((x : X) → P x → test x ≡ true → Q x) →
    (xs : List X) →
    Each P xs →
    Each Q (filter test xs)
each-filter P Q test f [] h = tt
each-filter P Q test f (x ∷ xs) h = go (test x) refl (each-filter P Q test f xs h.1)
  where
    go : (b : Bool) → test x ≡ b → Each Q (filter test xs) → Each Q (cond b (x ∷ filter test xs) (filter test xs))
    go true passes later = (f x h.0 passes, later)
    go false fails later = later

-- ---- lists in which nothing is there twice

pub distinct-filter : {K : Type 0} (eq : K → K → Bool) (test : K → Bool) (xs : List K) → IsDistinct eq xs → IsDistinct eq (filter test xs)
distinct-filter eq test [] h = h
distinct-filter eq test (x ∷ xs) h = go (test x) (distinct-filter eq test xs (IsDistinct-tail eq x xs h))
  where
    go : (b : Bool) → IsDistinct eq (filter test xs) → IsDistinct eq (cond b (x ∷ filter test xs) (filter test xs))
    go true later =
        IsDistinct-cons eq x (filter test xs)
        (each-filter (λ y. eq x y ≡ false) (λ y. eq x y ≡ false) test (λ y apart passes. apart) xs (IsDistinct-head eq x xs h)) later
    go false later = later

-- a map that keeps differences
pub distinct-map : {X Y : Type 0} (eq : X → X → Bool) (same : Y → Y → Bool) (f : X → Y) →
    ((x y : X) → eq x y ≡ false → same (f x) (f y) ≡ false) →
    (xs : List X) →
    IsDistinct eq xs →
    IsDistinct same (map f xs)
unfolding IsDistinct
distinct-map eq same f apart [] h = tt
distinct-map eq same f apart (x ∷ xs) h =
    IsDistinct-cons same
    (f x)
    (map f xs)
    (each-map f (λ y. same (f x) y ≡ false) xs (each-weaker (λ y. eq x y ≡ false) (λ y. same (f x) (f y) ≡ false) (apart x) xs (IsDistinct-head eq x xs h)))
    (distinct-map eq same f apart xs (IsDistinct-tail eq x xs h))

-- lists that have nothing in common
pub distinct-append : {K : Type 0} {eq : K → K → Bool} (laws : IsEquivalence eq) (xs ys : List K) →
    IsDistinct eq xs →
    IsDistinct eq ys →
    Each (λ y. list_any (eq y) xs ≡ false) ys →
    IsDistinct eq (xs ++ ys)
distinct-append {K} {eq} laws xs [] h k apart = subst (IsDistinct eq) (sym (append-nil xs)) h
distinct-append {K} {eq} laws xs (y ∷ ys) h k apart =
    subst (IsDistinct eq) (append_assoc xs (y ∷ []) ys)
    (distinct-append laws (xs ++ y ∷ []) ys (IsDistinct-push laws xs y h apart.0) (IsDistinct-tail eq y ys k)
    (each-both (λ z. eq y z ≡ false) (λ z. list_any (eq z) xs ≡ false)
    (λ z. list_any (eq z) (xs ++ y ∷ []) ≡ false) later ys (IsDistinct-head eq y ys k) apart.1))
  where
    later : (z : K) → eq y z ≡ false → list_any (eq z) xs ≡ false → list_any (eq z) (xs ++ y ∷ []) ≡ false
    later z apart_from_y apart_from_xs =
        list_any-append (eq z) xs (y ∷ [])
        ∙ ap (λ b. b || (eq z y || false)) apart_from_xs
        ∙ ap (λ b. b || false) (laws.symm z y ∙ apart_from_y)
