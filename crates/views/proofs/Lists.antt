-- What removing a name from a list, or adding one, does to the names in it.
use Rattle.std.proofs.Common.{◌≡◌, ◌≤◌, ◌+◌, ℕ, zero, suc, Bool, true, false, cond, ◌||◌, ◌⊎◌, inl}
use Rattle.std.proofs.Common.{inr, List, [], ◌∷◌, ◌++◌, length, refl, sym, ap, ◌∙◌, true≢false, arith}
use Rattle.std.specs.Prelude.{remove}
use Rattle.std.specs.List.{IsDistinct, list_any, AllByRecursion}
use Rattle.std.specs.Set.{remove_key}
use Rattle.std.specs.Cmp.{IsEquivalence}
use Rattle.std.proofs.lemmas.List.Folds.{list_any-append}
use Rattle.std.proofs.lemmas.Map.Keys.{IsDistinct-head, IsDistinct-tail, IsDistinct-cons}

-- ---- tests

pub or_left : (a b : Bool) → (a || b) ≡ false → a ≡ false
or_left false b e = refl
or_left true b e = absurd (true≢false e)

pub or_right : (a b : Bool) → (a || b) ≡ false → b ≡ false
or_right false b e = e
or_right true b e = absurd (true≢false e)

pub or_both : (a b : Bool) → a ≡ false → b ≡ false → (a || b) ≡ false
or_both a b e f = ap (λ c. c || b) e ∙ f

-- what is true of the part is true of the whole, where what is false of the whole is false of the part
pub true_of_whole : (part whole : Bool) → (whole ≡ false → part ≡ false) → part ≡ true → whole ≡ true
true_of_whole part true h e = refl
true_of_whole part false h e = absurd (true≢false (sym e ∙ h refl))

module _ {K : Type 0} (test : K → Bool) where
  -- the one that a removal takes was there, and the others stay
  pub lacks-remove_key : (gone : K → Bool) (ks : List K) → list_any test ks ≡ false → list_any test (remove_key gone ks) ≡ false
  lacks-remove_key gone [] h = refl
  lacks-remove_key gone (k ∷ ks) h = by (gone k) (lacks-remove_key gone ks (or_right (test k) (list_any test ks) h))
    where
      by : (b : Bool) → list_any test (remove_key gone ks) ≡ false → list_any test (cond b ks (k ∷ remove_key gone ks)) ≡ false
      by true rest = or_right (test k) (list_any test ks) h
      by false rest = or_both (test k) _ (or_left (test k) (list_any test ks) h) rest

  pub lacks-remove : (ks : List K) (i : ℕ) → list_any test ks ≡ false → list_any test (remove ks i) ≡ false
  lacks-remove [] zero h = refl
  lacks-remove [] (suc i) h = refl
  lacks-remove (k ∷ ks) zero h = or_right (test k) (list_any test ks) h
  lacks-remove (k ∷ ks) (suc i) h = or_both (test k) _ (or_left (test k) (list_any test ks) h) (lacks-remove ks i (or_right (test k) (list_any test ks) h))

  -- a name that is put last is there, and no other name is new
  pub lacks-push : (ks : List K) (k : K) → list_any test ks ≡ false → test k ≡ false → list_any test (ks ++ k ∷ []) ≡ false
  lacks-push ks k h e = list_any-append test ks (k ∷ []) ∙ or_both (list_any test ks) _ h (or_both (test k) false e refl)

  pub has-push : (ks : List K) (k : K) → list_any test (ks ++ k ∷ []) ≡ true → (list_any test ks ≡ true) ⊎ (test k ≡ true)
  has-push ks k h = by (list_any test ks) (test k) (sym (list_any-append test ks (k ∷ [])) ∙ h)
    where
      by : (a b : Bool) → (a || (b || false)) ≡ true → (a ≡ true) ⊎ (b ≡ true)
      by true b e = inl refl
      by false true e = inr refl
      by false false e = absurd (true≢false (sym e))

-- each that is left was there: what holds of all holds of those left
all-remove_key : {K : Type 0} (P : K → Type 0) (gone : K → Bool) (ks : List K) → AllByRecursion P ks → AllByRecursion P (remove_key gone ks)
all-remove_key P gone [] h = tt
all-remove_key P gone (k ∷ ks) h = by (gone k) (all-remove_key P gone ks h.1)
  where
    by : (b : Bool) → AllByRecursion P (remove_key gone ks) → AllByRecursion P (cond b ks (k ∷ remove_key gone ks))
    by true rest = h.1
    by false rest = (h.0, rest)

all-remove : {K : Type 0} (P : K → Type 0) (ks : List K) (i : ℕ) → AllByRecursion P ks → AllByRecursion P (remove ks i)
all-remove P [] zero h = tt
all-remove P [] (suc i) h = tt
all-remove P (k ∷ ks) zero h = h.1
all-remove P (k ∷ ks) (suc i) h = (h.0, all-remove P ks i h.1)

-- those that are left are distinct
pub IsDistinct-remove_key : {K : Type 0} (e : K → K → Bool) (gone : K → Bool) (ks : List K) → IsDistinct e ks → IsDistinct e (remove_key gone ks)
IsDistinct-remove_key e gone [] h = h
IsDistinct-remove_key e gone (k ∷ ks) h = by (gone k) (IsDistinct-remove_key e gone ks (IsDistinct-tail e k ks h))
  where
    by : (b : Bool) → IsDistinct e (remove_key gone ks) → IsDistinct e (cond b ks (k ∷ remove_key gone ks))
    by true rest = IsDistinct-tail e k ks h
    by false rest = IsDistinct-cons e k _ (all-remove_key (λ y. e k y ≡ false) gone ks (IsDistinct-head e k ks h)) rest

pub IsDistinct-remove : {K : Type 0} (e : K → K → Bool) (ks : List K) (i : ℕ) → IsDistinct e ks → IsDistinct e (remove ks i)
IsDistinct-remove e [] zero h = h
IsDistinct-remove e [] (suc i) h = h
IsDistinct-remove e (k ∷ ks) zero h = IsDistinct-tail e k ks h
IsDistinct-remove e (k ∷ ks) (suc i) h =
    IsDistinct-cons e k _ (all-remove (λ y. e k y ≡ false) ks i (IsDistinct-head e k ks h)) (IsDistinct-remove e ks i (IsDistinct-tail e k ks h))

-- they are no more
pub length-remove_key-le : {K : Type 0} (gone : K → Bool) (ks : List K) → length (remove_key gone ks) ≤ length ks
length-remove_key-le gone [] = omega arith
length-remove_key-le gone (k ∷ ks) = by (gone k) (length-remove_key-le gone ks)
  where
    by : (b : Bool) → length (remove_key gone ks) ≤ length ks → length (cond b ks (k ∷ remove_key gone ks)) ≤ suc (length ks)
    by true rest = omega arith
    by false rest = omega arith

-- none that differs from x is like x
none : {K : Type 0} {e : K → K → Bool} (laws : IsEquivalence e) (k x : K) (ys : List K) →
    e k x ≡ true →
    AllByRecursion (λ y. e x y ≡ false) ys →
    list_any (e k) ys ≡ false
none laws k x [] same all = refl
none {K} {e} laws k x (y ∷ ys) same all = or_both (e k y) _ (laws.congr k x y same ∙ all.0) (none laws k x ys same all.1)

-- what is removed from distinct ones is gone
pub lacks-removed : {K : Type 0} {e : K → K → Bool} (laws : IsEquivalence e) (k : K) (ks : List K) →
    IsDistinct e ks →
    list_any (e k) (remove_key (e k) ks) ≡ false
lacks-removed laws k [] h = refl
lacks-removed {K} {e} laws k (x ∷ xs) h = by (e k x) refl (lacks-removed laws k xs (IsDistinct-tail e x xs h))
  where
    by : (b : Bool) → e k x ≡ b → list_any (e k) (remove_key (e k) xs) ≡ false → list_any (e k) (cond b xs (x ∷ remove_key (e k) xs)) ≡ false
    by true same rest = none laws k x xs same (IsDistinct-head e x xs h)
    by false same rest = or_both (e k x) _ same rest

-- a removal leaves no more
pub shorter-remove : {K : Type 0} (ks : List K) (i : ℕ) → length (remove ks i) ≤ length ks
shorter-remove [] zero = omega arith
shorter-remove [] (suc i) = omega arith
shorter-remove (k ∷ ks) zero = omega arith
shorter-remove (k ∷ ks) (suc i) = omega (arith, shorter-remove ks i)
