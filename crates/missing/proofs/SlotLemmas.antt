-- Slots, and the places of what they hold.
use Rattle.std.proofs.Common.{◌≡◌, ◌∙◌, ◌||◌, ◌+◌, ◌<◌, ◌≤◌, ℕ, zero, suc, Bool, true, false, not, cond, List, [], ◌∷◌}
use Rattle.std.proofs.Common.{◌++◌, Option, None, Some, filter, map, length, take, drop, sym, ap, subst, refl, arith}
use Rattle.std.specs.Prelude.{set, slice_get, is_some, unwrap_or}
use Rattle.std.specs.Bool.{Decides}
use Rattle.std.specs.List.{AllByRecursion as Each, IsDistinct, list_any}
use Rattle.std.proofs.lemmas.Option.{slice_get_within}
use Rattle.std.proofs.lemmas.Bool.{false≢true, true≢false}
use Rattle.std.proofs.lemmas.Map.Keys.{IsDistinct-head, IsDistinct-tail}
use Rattle.node_names.specs.Slots.{somes}
use Rattle.missing.specs.Slots.{AreGone, later, place, holds}

-- ---- places

pub later-None : (r : Option ℕ) → later r ≡ None → r ≡ None
later-None None is = refl
later-None (Some n) is = absurd (true≢false (ap is_some is))

pub lacks : {X : Type 0} (r : Option X) → is_some r ≡ false → r ≡ None
lacks None is = refl
lacks (Some x) is = absurd (true≢false is)

is_some-later : (r : Option ℕ) → is_some r ≡ is_some (later r)
is_some-later None = refl
is_some-later (Some n) = refl

-- what is left of two lists
pub somes-append : {X : Type 0} (xs ys : List (Option X)) → somes (xs ++ ys) ≡ somes xs ++ somes ys
somes-append [] ys = refl
somes-append (None ∷ xs) ys = somes-append xs ys
somes-append (Some x ∷ xs) ys = ap (λ zs. x ∷ zs) (somes-append xs ys)

pub some_same : (m n : ℕ) → ◌≡◌ {A = Option ℕ} (Some m) (Some n) → m ≡ n
some_same m n is = ap (λ o. unwrap_or o 0) is

module _ {X : Type 0} (t : X → Bool) where
  -- what is appended
  pub place-push_new : (xs : List X) (y : X) → place t xs ≡ None → place t (xs ++ y ∷ []) ≡ cond (t y) (Some (length xs)) None
  place-push_new [] y none = refl
  place-push_new (x ∷ xs) y none = go (t x) none (λ h. place-push_new xs y h)
    where
      shift : (b : Bool) → later (cond b (Some (length xs)) None) ≡ cond b (Some (suc (length xs))) None
      shift true = refl
      shift false = refl

      go : (b : Bool) →
          cond b (Some zero) (later (place t xs)) ≡ None →
          (place t xs ≡ None → place t (xs ++ y ∷ []) ≡ cond (t y) (Some (length xs)) None) →
          cond b (Some zero) (later (place t (xs ++ y ∷ []))) ≡ cond (t y) (Some (suc (length xs))) None
      go true is rest = absurd (true≢false (ap is_some is))
      go false is rest = ap later (rest (later-None (place t xs) is)) ∙ shift (t y)

  pub place-push_old : (xs ys : List X) (n : ℕ) → place t xs ≡ Some n → place t (xs ++ ys) ≡ Some n
  place-push_old [] ys n is = absurd (false≢true (ap is_some is))
  place-push_old (x ∷ xs) ys n is = go (t x) is (λ m h. place-push_old xs ys m h)
    where
      by : (r : Option ℕ) →
          place t xs ≡ r →
          later r ≡ Some n →
          ((m : ℕ) → place t xs ≡ Some m → place t (xs ++ ys) ≡ Some m) →
          later (place t (xs ++ ys)) ≡ Some n
      by None at h rest = absurd (false≢true (ap is_some h))
      by (Some m) at h rest = ap later (rest m at) ∙ h

      go : (b : Bool) →
          cond b (Some zero) (later (place t xs)) ≡ Some n →
          ((m : ℕ) → place t xs ≡ Some m → place t (xs ++ ys) ≡ Some m) →
          cond b (Some zero) (later (place t (xs ++ ys))) ≡ Some n
      go true h rest = h
      go false h rest = by (place t xs) refl h rest

  -- what stands at the place passes
  pub place-passes : (xs : List X) (n : ℕ) → place t xs ≡ Some n → (x : X) × (slice_get xs n ≡ Some x) × (t x ≡ true)
  place-passes [] n is = absurd (false≢true (ap is_some is))
  place-passes (x ∷ xs) n is = go (t x) refl is (λ m h. place-passes xs m h)
    where
      Passing : ℕ → List X → Type 0
      Passing m ys = (y : X) × (slice_get ys m ≡ Some y) × (t y ≡ true)

      by : (r : Option ℕ) → place t xs ≡ r → later r ≡ Some n → ((m : ℕ) → place t xs ≡ Some m → Passing m xs) → Passing n (x ∷ xs)
      by None at h rest = absurd (false≢true (ap is_some h))
      by (Some m) at h rest = let p : Passing m xs = rest m at in (p.0, ap (slice_get (x ∷ xs)) (sym (some_same (suc m) n h)) ∙ p.1, p.2)

      go : (b : Bool) → t x ≡ b → cond b (Some zero) (later (place t xs)) ≡ Some n → ((m : ℕ) → place t xs ≡ Some m → Passing m xs) → Passing n (x ∷ xs)
      go true passes h rest = (x, ap (slice_get (x ∷ xs)) (sym (some_same 0 n h)), passes)
      go false fails h rest = by (place t xs) refl h rest

  -- one that does not pass takes the place of one that does not
  pub place-set : (xs : List X) (n : ℕ) (y x : X) → slice_get xs n ≡ Some x → t x ≡ false → t y ≡ false → place t (set xs n y) ≡ place t xs
  place-set [] n y x at fails new = refl
  place-set (z ∷ xs) zero y x at fails new =
      ap (λ b. cond b (Some zero) (later (place t xs))) (new ∙ sym fails) ∙ ap (λ o. cond (t (unwrap_or o x)) (Some zero) (later (place t xs))) (sym at)
  place-set (z ∷ xs) (suc n) y x at fails new = ap (λ r. cond (t z) (Some zero) (later r)) (place-set xs n y x at fails new)

-- a place is one of a slot
pub within-place : {X : Type 0} (t : X → Bool) (xs : List X) (n : ℕ) → place t xs ≡ Some n → n < length xs
within-place t xs n is = slice_get_within xs n (place-passes t xs n is).0 (place-passes t xs n is).1

-- ---- empty slots at the front

pub gone-push : {X : Type 0} (n : ℕ) (slots more : List (Option X)) → AreGone n slots → AreGone n (slots ++ more)
gone-push zero slots more gone = tt
gone-push (suc n) [] more gone = absurd gone
gone-push (suc n) (None ∷ slots) more gone = gone-push n slots more gone
gone-push (suc n) (Some x ∷ slots) more gone = absurd gone

pub gone-set : {X : Type 0} (n k : ℕ) (slots : List (Option X)) → AreGone n slots → AreGone n (set slots k None)
gone-set zero k slots gone = tt
gone-set (suc n) k [] gone = absurd gone
gone-set (suc n) zero (None ∷ slots) gone = gone
gone-set (suc n) (suc k) (None ∷ slots) gone = gone-set n k slots gone
gone-set (suc n) k (Some x ∷ slots) gone = absurd gone

gone-more : {X : Type 0} (n : ℕ) (slots : List (Option X)) → AreGone n slots → slice_get slots n ≡ Some None → AreGone (suc n) slots
gone-more n [] gone at = absurd (false≢true (ap is_some at))
gone-more zero (None ∷ slots) gone at = tt
gone-more zero (Some x ∷ slots) gone at = absurd (true≢false (ap is_some (ap (λ o. unwrap_or o None) at)))
gone-more (suc n) (None ∷ slots) gone at = gone-more n slots gone at
gone-more (suc n) (Some x ∷ slots) gone at = absurd gone

pub gone-next : {X : Type 0} (n : ℕ) (slots : List (Option X)) → AreGone n slots → slice_get slots n ≡ Some None → AreGone (n + 1) slots
gone-next n slots gone at = let next : suc n ≡ n + 1 = omega arith in subst (λ k. AreGone k slots) next (gone-more n slots gone at)

pub gone-within : {X : Type 0} (n : ℕ) (slots : List (Option X)) → AreGone n slots → n ≤ length slots
gone-within zero slots gone = omega arith
gone-within (suc n) [] gone = absurd gone
gone-within (suc n) (None ∷ slots) gone = let h : n ≤ length slots = gone-within n slots gone in omega arith
gone-within (suc n) (Some x ∷ slots) gone = absurd gone

pub gone-somes : {X : Type 0} (n : ℕ) (slots : List (Option X)) → AreGone n slots → somes (drop n slots) ≡ somes slots
gone-somes zero slots gone = refl
gone-somes (suc n) [] gone = absurd gone
gone-somes (suc n) (None ∷ slots) gone = gone-somes n slots gone
gone-somes (suc n) (Some x ∷ slots) gone = absurd gone

-- ---- slots whose keys differ

module _ {K X : Type 0} (eq : K → K → Bool) (decides : (a b : K) → Decides (eq a b) (a ≡ b)) (key : X → K) where
  -- a key that all others differ from has no place
  pub unplaced : (k : K) (slots : List (Option X)) → Each (λ other. eq k other ≡ false) (map key (somes slots)) → place (holds eq key k) slots ≡ None
  unplaced k [] h = refl
  unplaced k (None ∷ slots) h = ap later (unplaced k slots h)
  unplaced k (Some x ∷ slots) h = ap (λ b. cond b (Some zero) (later (place (holds eq key k) slots))) h.0 ∙ ap later (unplaced k slots h.1)

  -- one that is taken out has no place any more
  pub taken_out : (k : K) (slots : List (Option X)) (n : ℕ) →
      IsDistinct eq (map key (somes slots)) →
      place (holds eq key k) slots ≡ Some n →
      place (holds eq key k) (set slots n None) ≡ None
  taken_out k [] n distinct is = absurd (false≢true (ap is_some is))
  taken_out k (None ∷ slots) n distinct is = by (place (holds eq key k) slots) refl is (λ m h. taken_out k slots m distinct h)
    where
      by : (r : Option ℕ) →
          place (holds eq key k) slots ≡ r →
          later r ≡ Some n →
          ((m : ℕ) → place (holds eq key k) slots ≡ Some m → place (holds eq key k) (set slots m None) ≡ None) →
          place (holds eq key k) (set (None ∷ slots) n None) ≡ None
      by None at h rest = absurd (false≢true (ap is_some h))
      by (Some m) at h rest = subst (λ i. place (holds eq key k) (set (None ∷ slots) i None) ≡ None) (some_same (suc m) n h) (ap later (rest m at))
  taken_out k (Some x ∷ slots) n distinct is =
      go (eq k (key x)) refl is (λ m h. taken_out k slots m (IsDistinct-tail eq (key x) (map key (somes slots)) distinct) h)
    where
      by : (r : Option ℕ) →
          place (holds eq key k) slots ≡ r →
          later r ≡ Some n →
          eq k (key x) ≡ false →
          ((m : ℕ) → place (holds eq key k) slots ≡ Some m → place (holds eq key k) (set slots m None) ≡ None) →
          place (holds eq key k) (set (Some x ∷ slots) n None) ≡ None
      by None at h fails rest = absurd (false≢true (ap is_some h))
      by (Some m) at h fails rest =
          subst (λ i. place (holds eq key k) (set (Some x ∷ slots) i None) ≡ None) (some_same (suc m) n h)
          (ap (λ b. cond b (Some zero) (later (place (holds eq key k) (set slots m None)))) fails ∙ ap later (rest m at))

      go : (b : Bool) →
          eq k (key x) ≡ b →
          cond b (Some zero) (later (place (holds eq key k) slots)) ≡ Some n →
          ((m : ℕ) → place (holds eq key k) slots ≡ Some m → place (holds eq key k) (set slots m None) ≡ None) →
          place (holds eq key k) (set (Some x ∷ slots) n None) ≡ None
      go true same h rest =
          subst (λ i. place (holds eq key k) (set (Some x ∷ slots) i None) ≡ None) (some_same 0 n h)
          (ap later (unplaced k slots (subst (λ j. Each (λ other. eq j other ≡ false) (map key (somes slots)))
          (sym ((decides k (key x)).0 same)) (IsDistinct-head eq (key x) (map key (somes slots)) distinct))))
      go false fails h rest = by (place (holds eq key k) slots) refl h fails rest

  -- a filter that takes nothing out
  filter-others : (k : K) (xs : List X) → Each (λ other. eq k other ≡ false) (map key xs) → filter (λ x. not (eq k (key x))) xs ≡ xs
  filter-others k [] h = refl
  filter-others k (x ∷ xs) h =
      ap (λ b. cond (not b) (x ∷ filter (λ y. not (eq k (key y))) xs) (filter (λ y. not (eq k (key y))) xs)) h.0 ∙ ap (λ ys. x ∷ ys) (filter-others k xs h.1)

  -- what is left without it
  pub somes-taken_out : (k : K) (slots : List (Option X)) (n : ℕ) →
      IsDistinct eq (map key (somes slots)) →
      place (holds eq key k) slots ≡ Some n →
      somes (set slots n None) ≡ filter (λ x. not (eq k (key x))) (somes slots)
  somes-taken_out k [] n distinct is = absurd (false≢true (ap is_some is))
  somes-taken_out k (None ∷ slots) n distinct is = by (place (holds eq key k) slots) refl is (λ m h. somes-taken_out k slots m distinct h)
    where
      by : (r : Option ℕ) →
          place (holds eq key k) slots ≡ r →
          later r ≡ Some n →
          ((m : ℕ) → place (holds eq key k) slots ≡ Some m → somes (set slots m None) ≡ filter (λ x. not (eq k (key x))) (somes slots)) →
          somes (set (None ∷ slots) n None) ≡ filter (λ x. not (eq k (key x))) (somes slots)
      by None at h rest = absurd (false≢true (ap is_some h))
      by (Some m) at h rest =
          subst (λ i. somes (set (None ∷ slots) i None) ≡ filter (λ x. not (eq k (key x))) (somes slots)) (some_same (suc m) n h) (rest m at)
  somes-taken_out k (Some x ∷ slots) n distinct is =
      go (eq k (key x)) refl is (λ m h. somes-taken_out k slots m (IsDistinct-tail eq (key x) (map key (somes slots)) distinct) h)
    where
      others : List X
      others = filter (λ y. not (eq k (key y))) (somes slots)

      by : (r : Option ℕ) →
          place (holds eq key k) slots ≡ r →
          later r ≡ Some n →
          ((m : ℕ) → place (holds eq key k) slots ≡ Some m → somes (set slots m None) ≡ others) →
          somes (set (Some x ∷ slots) n None) ≡ x ∷ others
      by None at h rest = absurd (false≢true (ap is_some h))
      by (Some m) at h rest = subst (λ i. somes (set (Some x ∷ slots) i None) ≡ x ∷ others) (some_same (suc m) n h) (ap (λ ys. x ∷ ys) (rest m at))

      go : (b : Bool) →
          eq k (key x) ≡ b →
          cond b (Some zero) (later (place (holds eq key k) slots)) ≡ Some n →
          ((m : ℕ) → place (holds eq key k) slots ≡ Some m → somes (set slots m None) ≡ others) →
          somes (set (Some x ∷ slots) n None) ≡ cond (not (eq k (key x))) (x ∷ others) others
      go true same h rest =
          subst (λ i. somes (set (Some x ∷ slots) i None) ≡ somes slots) (some_same 0 n h) refl
          ∙ sym (filter-others k (somes slots) (subst (λ j. Each (λ other. eq j other ≡ false) (map key (somes slots)))
          (sym ((decides k (key x)).0 same)) (IsDistinct-head eq (key x) (map key (somes slots)) distinct)))
          ∙ ap (λ b. cond (not b) (x ∷ others) others) (sym same)
      go false fails h rest = by (place (holds eq key k) slots) refl h rest ∙ ap (λ b. cond (not b) (x ∷ others) others) (sym fails)

  -- what holds of each that is left holds of one of them
  each-at : (P : K → Type 0) (slots : List (Option X)) (n : ℕ) (x : X) → Each P (map key (somes slots)) → slice_get slots n ≡ Some (Some x) → P (key x)
  each-at P [] n x h at = absurd (false≢true (ap is_some at))
  each-at P (None ∷ slots) zero x h at = absurd (false≢true (ap is_some (ap (λ o. unwrap_or o None) at)))
  each-at P (None ∷ slots) (suc n) x h at = each-at P slots n x h at
  each-at P (Some y ∷ slots) zero x h at = subst (λ z. P (key z)) (ap (λ o. unwrap_or o y) (ap (λ o. unwrap_or o None) at)) h.0
  each-at P (Some y ∷ slots) (suc n) x h at = each-at P slots n x h.1 at

  -- none before one has its key
  pub none_before : (slots : List (Option X)) (n : ℕ) (x : X) →
      IsDistinct eq (map key (somes slots)) →
      slice_get slots n ≡ Some (Some x) →
      list_any (λ y. eq (key x) (key y)) (somes (take n slots)) ≡ false
  none_before [] n x distinct at = absurd (false≢true (ap is_some at))
  none_before (slot ∷ slots) zero x distinct at = refl
  none_before (None ∷ slots) (suc n) x distinct at = none_before slots n x distinct at
  none_before (Some y ∷ slots) (suc n) x distinct at =
      ap (λ b. b || list_any (λ z. eq (key x) (key z)) (somes (take n slots))) (turned (eq (key x) (key y)) refl)
      ∙ none_before slots n x (IsDistinct-tail eq (key y) (map key (somes slots)) distinct) at
    where
      apart : eq (key y) (key x) ≡ false
      apart = each-at (λ other. eq (key y) other ≡ false) slots n x (IsDistinct-head eq (key y) (map key (somes slots)) distinct) at

      turned : (b : Bool) → eq (key x) (key y) ≡ b → eq (key x) (key y) ≡ false
      turned false is = is
      turned true is = absurd (false≢true (sym apart ∙ ap (eq (key y)) ((decides (key x) (key y)).0 is) ∙ (decides (key y) (key y)).1 refl))

  -- whether a key has a place
  pub any-place : (k : K) (slots : List (Option X)) → list_any (λ x. eq k (key x)) (somes slots) ≡ is_some (place (holds eq key k) slots)
  any-place k [] = refl
  any-place k (None ∷ slots) = any-place k slots ∙ is_some-later (place (holds eq key k) slots)
  any-place k (Some x ∷ slots) = go (eq k (key x)) (any-place k slots ∙ is_some-later (place (holds eq key k) slots))
    where
      go : (b : Bool) →
          list_any (λ y. eq k (key y)) (somes slots) ≡ is_some (later (place (holds eq key k) slots)) →
          (b || list_any (λ y. eq k (key y)) (somes slots)) ≡ is_some (cond b (Some zero) (later (place (holds eq key k) slots)))
      go true rest = refl
      go false rest = rest

  -- where a key has no place, nothing is taken out
  pub filter-unplaced : (k : K) (slots : List (Option X)) → place (holds eq key k) slots ≡ None → filter (λ x. not (eq k (key x))) (somes slots) ≡ somes slots
  filter-unplaced k [] none = refl
  filter-unplaced k (None ∷ slots) none = filter-unplaced k slots (later-None (place (holds eq key k) slots) none)
  filter-unplaced k (Some x ∷ slots) none = go (eq k (key x)) none (λ h. filter-unplaced k slots h)
    where
      others : List X
      others = filter (λ y. not (eq k (key y))) (somes slots)

      go : (b : Bool) →
          cond b (Some zero) (later (place (holds eq key k) slots)) ≡ None →
          (place (holds eq key k) slots ≡ None → others ≡ somes slots) →
          cond (not b) (x ∷ others) others ≡ x ∷ somes slots
      go true h rest = absurd (true≢false (ap is_some h))
      go false h rest = ap (λ ys. x ∷ ys) (rest (later-None (place (holds eq key k) slots) h))

  -- ---- a map of the places, as a function from keys, after a change

  module _ (slots : List (Option X)) (old new : K → Option ℕ) (are : (k : K) → old k ≡ place (holds eq key k) slots) where
    -- after one with a new key was appended
    pub placed-push : (x : X) →
        old (key x) ≡ None →
        ((k : K) → new k ≡ cond (eq (key x) k) (Some (length slots)) (old k)) →
        (k : K) →
        new k ≡ place (holds eq key k) (slots ++ Some x ∷ [])
    placed-push x none updates k = go (eq (key x) k) refl
      where
        by : (r : Option ℕ) →
            place (holds eq key k) slots ≡ r →
            eq k (key x) ≡ false →
            place (holds eq key k) slots ≡ place (holds eq key k) (slots ++ Some x ∷ [])
        by None at apart = at ∙ sym (place-push_new (holds eq key k) slots (Some x) at ∙ ap (λ b. cond b (Some (length slots)) None) apart)
        by (Some n) at apart = at ∙ sym (place-push_old (holds eq key k) slots (Some x ∷ []) n at)

        turned : (b : Bool) → eq k (key x) ≡ b → eq (key x) k ≡ false → eq k (key x) ≡ false
        turned false is apart = is
        turned true is apart = absurd (false≢true (sym apart ∙ ap (eq (key x)) ((decides k (key x)).0 is) ∙ (decides (key x) (key x)).1 refl))

        go : (b : Bool) → eq (key x) k ≡ b → new k ≡ place (holds eq key k) (slots ++ Some x ∷ [])
        go true same =
            updates k ∙ ap (λ b. cond b (Some (length slots)) (old k)) same
            ∙ sym (place-push_new (holds eq key k) slots (Some x) (sym (are k) ∙ ap old (sym ((decides (key x) k).0 same)) ∙ none)
            ∙ ap (λ b. cond b (Some (length slots)) None) (ap (λ j. eq j (key x)) (sym ((decides (key x) k).0 same)) ∙ (decides (key x) (key x)).1 refl))
        go false apart =
            updates k ∙ ap (λ b. cond b (Some (length slots)) (old k)) apart ∙ are k ∙ by (place (holds eq key k) slots) refl (turned (eq k (key x)) refl apart)

    -- after the one with this key was taken out
    pub placed-taken_out : (gone : K) (n : ℕ) →
        IsDistinct eq (map key (somes slots)) →
        old gone ≡ Some n →
        ((k : K) → new k ≡ cond (eq gone k) None (old k)) →
        (k : K) →
        new k ≡ place (holds eq key k) (set slots n None)
    placed-taken_out gone n distinct is updates k = go (eq gone k) refl
      where
        at : place (holds eq key gone) slots ≡ Some n
        at = sym (are gone) ∙ is

        found : (slot : Option X) × (slice_get slots n ≡ Some slot) × (holds eq key gone slot ≡ true)
        found = place-passes (holds eq key gone) slots n at

        fails : (slot : Option X) → holds eq key gone slot ≡ true → eq gone k ≡ false → (b : Bool) → holds eq key k slot ≡ b → b ≡ false
        fails slot has apart false h = refl
        fails None has apart true h = absurd (false≢true has)
        fails (Some x) has apart true h = absurd (false≢true (sym apart ∙ ap (eq gone) ((decides k (key x)).0 h) ∙ has))

        go : (b : Bool) → eq gone k ≡ b → new k ≡ place (holds eq key k) (set slots n None)
        go true same =
            updates k
            ∙ ap (λ b. cond b None (old k)) same
            ∙ sym (subst (λ j. place (holds eq key j) (set slots n None) ≡ None) ((decides gone k).0 same) (taken_out gone slots n distinct at))
        go false apart =
            updates k
            ∙ ap (λ b. cond b None (old k)) apart
            ∙ are k
            ∙ sym (place-set (holds eq key k) slots n None found.0 found.1 (fails found.0 found.2 apart (holds eq key k found.0) refl) refl)
