-- Tests over lists, and what they tell.
use Rattle.std.proofs.Common.{◌≡◌, ◌∙◌, List, [], ◌∷◌, true, false, sym, ap, refl, subst, inl, inr}
use Rattle.std.specs.List.{AllByRecursion as Each, list_all, list_any}
use Rattle.std.specs.Prelude.{◌&&◌, ◌||◌, Bool, not}
use Rattle.std.proofs.lemmas.Bool.{false≢true}
use Rattle.protocol.specs.Lists.{IsOneOf}

-- a test that cannot hold fails
pub fails : (b : Bool) → (b ≡ true → ⊥) → b ≡ false
fails true never = absurd (never refl)
fails false never = refl

-- the negation of a test that fails holds
pub not_false : (b : Bool) → b ≡ false → not b ≡ true
not_false b e = ap not e

-- and of one that holds fails
pub not_holds : (b : Bool) → not b ≡ true → b ≡ true → ⊥
not_holds true neither both = false≢true neither
not_holds false neither both = false≢true both

-- two tests that hold hold together
pub both_hold : (a b : Bool) → a ≡ true → b ≡ true → (a && b) ≡ true
both_hold true b x y = y
both_hold false b x y = absurd (false≢true x)

-- the first of two that hold together
pub first_holds : (a b : Bool) → (a && b) ≡ true → a ≡ true
first_holds true b h = refl
first_holds false b h = absurd (false≢true h)

-- the second of two that hold together
pub second_holds : (a b : Bool) → (a && b) ≡ true → b ≡ true
second_holds true b h = h
second_holds false b h = absurd (false≢true h)

-- tests of which each holds where the other does are the same
pub same_truth : (a b : Bool) → (a ≡ true → b ≡ true) → (b ≡ true → a ≡ true) → a ≡ b
same_truth true b to from = sym (to refl)
same_truth false true to from = from refl
same_truth false false to from = refl

-- what all pass each one passes
pub each_passes : {X : Type 0} (test : X → Bool) (xs : List X) → list_all test xs ≡ true → Each (λ x. test x ≡ true) xs
each_passes test [] h = tt
each_passes test (x ∷ xs) h = (first_holds (test x) (list_all test xs) h, each_passes test xs (second_holds (test x) (list_all test xs) h))

-- and what each one passes all pass
pub all_pass : {X : Type 0} (test : X → Bool) (xs : List X) → Each (λ x. test x ≡ true) xs → list_all test xs ≡ true
all_pass test [] h = refl
all_pass test (x ∷ xs) h = both_hold (test x) (list_all test xs) h.0 (all_pass test xs h.1)

-- where one of a list passes, some one does
pub any_passes : {X : Type 0} (test : X → Bool) (xs : List X) (x : X) → IsOneOf x xs → test x ≡ true → list_any test xs ≡ true
any_passes test [] x one is = absurd one
any_passes {X} test (y ∷ ys) x one is = go (test y) refl (λ later. any_passes test ys x later is)
  where
    go : (b : Bool) → test y ≡ b → (IsOneOf x ys → list_any test ys ≡ true) → (b || list_any test ys) ≡ true
    go true e rest = refl
    go false e rest = elim one [ inl here ↦ absurd (false≢true (sym e ∙ ap test (sym here) ∙ is)) | inr later ↦ rest later ]

-- and where some one does, it is one of the list
pub one_passes : {X : Type 0} (test : X → Bool) (xs : List X) → list_any test xs ≡ true → (x : X) × IsOneOf x xs × (test x ≡ true)
one_passes test [] h = absurd (false≢true h)
one_passes {X} test (y ∷ ys) h = go (test y) refl h (λ rest. one_passes test ys rest)
  where
    go : (b : Bool) →
        test y ≡ b →
        (b || list_any test ys) ≡ true →
        (list_any test ys ≡ true → (x : X) × IsOneOf x ys × (test x ≡ true)) →
        (x : X) × IsOneOf x (y ∷ ys) × (test x ≡ true)
    go true e some later = (y, inl refl, e)
    go false e some later = let found = later some in (found.0, inr found.1, found.2)

-- what holds of each holds of one of them
pub each_one : {X : Type 0} (P : X → Type 0) (xs : List X) (x : X) → Each P xs → IsOneOf x xs → P x
each_one P [] x h one = absurd one
each_one P (y ∷ ys) x h one = elim one [ inl here ↦ subst P (sym here) h.0 | inr later ↦ each_one P ys x h.1 later ]

-- and what holds of whichever is one of them holds of each
pub each_of_one : {X : Type 0} (P : X → Type 0) (xs : List X) → ((x : X) → IsOneOf x xs → P x) → Each P xs
each_of_one P [] h = tt
each_of_one P (x ∷ xs) h = (h x (inl refl), each_of_one P xs (λ y one. h y (inr one)))
