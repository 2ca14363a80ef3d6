-- Lemmas on the elements of lists, for the laws of the core. Proofs only; nothing here has to be trusted.
use Rattle.std.specs.Prelude.{◌≡◌, ◌≢◌, ◌⊎◌, ◌+◌, ◌||◌, ℕ, Bool, true, false, cond, List, [], ◌∷◌, ◌++◌, map, filter, count_by, refl}
use Rattle.std.specs.List.{AllByRecursion as Each, IsDistinct}
use Rattle.std.proofs.Common.{inl, inr, sym, ◌∙◌, ap, subst, zero-add, arith}
use Rattle.std.proofs.lemmas.Bool.{false≢true, true≢false}
use Rattle.std.proofs.lemmas.List.Sums.{sum_by-cons}
use Rattle.std.proofs.lemmas.Map.Keys.{IsDistinct-head, IsDistinct-tail}
use Rattle.node_names.specs.NodeName.{Name}
use Rattle.node_names.specs.Same.{same_name, has_name, same_name-Decides, same_id, has_id, same_id-Decides}
use Rattle.node_names.specs.declared.ids.MsgId.{MsgId}
use Rattle.protocol.specs.impl_proofs.NameLists.{lacks_from_each}
use Rattle.protocol.specs.Lists.{IsOneOf}

-- ---- what holds of each, and what is one of them

-- what holds of each holds of one
pub of_each : {X : Type 0} (P : X → Type 0) (xs : List X) (x : X) → Each P xs → IsOneOf x xs → P x
of_each P [] x h none = absurd none
of_each P (y ∷ ys) x h (inl same) = subst P (sym same) h.0
of_each P (y ∷ ys) x h (inr later) = of_each P ys x h.1 later

-- what holds of whatever is one of them holds of each
pub each_one : {X : Type 0} (P : X → Type 0) (xs : List X) → ((x : X) → IsOneOf x xs → P x) → Each P xs
each_one P [] all = tt
each_one P (x ∷ xs) all = (all x (inl refl), each_one P xs (λ y h. all y (inr h)))

-- what holds of each of two lists holds of each of both
pub each-append : {X : Type 0} (P : X → Type 0) (xs ys : List X) → Each P xs → Each P ys → Each P (xs ++ ys)
each-append P [] ys h k = k
each-append P (x ∷ xs) ys h k = (h.0, each-append P xs ys h.1 k)

-- what is one of a list is one of it with more
pub one_of_left : {X : Type 0} (x : X) (xs ys : List X) → IsOneOf x xs → IsOneOf x (xs ++ ys)
one_of_left x [] ys none = absurd none
one_of_left x (y ∷ xs) ys (inl same) = inl same
one_of_left x (y ∷ xs) ys (inr later) = inr (one_of_left x xs ys later)

pub one_of_right : {X : Type 0} (x : X) (xs ys : List X) → IsOneOf x ys → IsOneOf x (xs ++ ys)
one_of_right x [] ys h = h
one_of_right x (y ∷ xs) ys h = inr (one_of_right x xs ys h)

-- and what is one of both is one of either
pub one_of_append : {X : Type 0} (x : X) (xs ys : List X) → IsOneOf x (xs ++ ys) → IsOneOf x xs ⊎ IsOneOf x ys
one_of_append x [] ys h = inr h
one_of_append x (y ∷ xs) ys (inl same) = inl (inl same)
one_of_append x (y ∷ xs) ys (inr later) = elim (one_of_append x xs ys later) [ inl left ↦ inl (inr left) | inr right ↦ inr right ]

-- what is one of a filtered list is one of the list and passes
pub one_of_filter : {X : Type 0} (test : X → Bool) (x : X) (xs : List X) → IsOneOf x (filter test xs) → IsOneOf x xs × (test x ≡ true)
one_of_filter test x [] none = absurd none
one_of_filter {X} test x (y ∷ xs) h = go (one_of_filter test x xs) (test y) refl h
  where
    go : (IsOneOf x (filter test xs) → IsOneOf x xs × (test x ≡ true)) →
        (b : Bool) →
        test y ≡ b →
        IsOneOf x (cond b (y ∷ filter test xs) (filter test xs)) →
        IsOneOf x (y ∷ xs) × (test x ≡ true)
    go rest true passes (inl same) = (inl same, ap test same ∙ passes)
    go rest true passes (inr later) = let found : IsOneOf x xs × (test x ≡ true) = rest later in (inr found.0, found.1)
    go rest false passes later = let found : IsOneOf x xs × (test x ≡ true) = rest later in (inr found.0, found.1)

-- and what is one of the list and passes is one of the filtered list
pub one_of_passing : {X : Type 0} (test : X → Bool) (x : X) (xs : List X) → IsOneOf x xs → test x ≡ true → IsOneOf x (filter test xs)
one_of_passing test x [] none passes = absurd none
one_of_passing {X} test x (y ∷ xs) h passes = go (λ later. one_of_passing test x xs later passes) (test y) refl h
  where
    go : (IsOneOf x xs → IsOneOf x (filter test xs)) → (b : Bool) → test y ≡ b → IsOneOf x (y ∷ xs) → IsOneOf x (cond b (y ∷ filter test xs) (filter test xs))
    go rest true is (inl same) = inl same
    go rest true is (inr later) = inr (rest later)
    go rest false is (inl same) = absurd (true≢false (sym passes ∙ ap test same ∙ is))
    go rest false is (inr later) = rest later

-- an image of one is one of the images
pub one_of_map : {X Y : Type 0} (f : X → Y) (y : Y) (xs : List X) → IsOneOf y (map f xs) → (x : X) × IsOneOf x xs × (y ≡ f x)
one_of_map f y [] none = absurd none
one_of_map f y (x ∷ xs) (inl same) = (x, inl refl, same)
one_of_map {X} f y (x ∷ xs) (inr later) = let found : (z : X) × IsOneOf z xs × (y ≡ f z) = one_of_map f y xs later in (found.0, inr found.1, found.2)

-- ---- ids and names

-- an id that a list has is one of it
pub one_of_ids : (id : MsgId) (ids : List MsgId) → has_id ids id ≡ true → IsOneOf id ids
one_of_ids id [] none = absurd (false≢true none)
one_of_ids id (other ∷ ids) h = go (one_of_ids id ids) (same_id id other) refl h
  where
    go : (has_id ids id ≡ true → IsOneOf id ids) → (b : Bool) → same_id id other ≡ b → (b || has_id ids id) ≡ true → IsOneOf id (other ∷ ids)
    go rest true same e = inl ((same_id-Decides id other).0 same)
    go rest false same e = inr (rest e)

-- and the other way round
pub has_one_of_ids : (id : MsgId) (ids : List MsgId) → IsOneOf id ids → has_id ids id ≡ true
has_one_of_ids id [] none = absurd none
has_one_of_ids id (other ∷ ids) (inl same) = ap (λ b. b || has_id ids id) ((same_id-Decides id other).1 same)
has_one_of_ids id (other ∷ ids) (inr later) = ap (λ b. same_id id other || b) (has_one_of_ids id ids later) ∙ or_true (same_id id other)
  where
    or_true : (b : Bool) → (b || true) ≡ true
    or_true true = refl
    or_true false = refl

-- a name that a list has is one of it
pub one_of_names : (name : Name) (names : List Name) → has_name names name ≡ true → IsOneOf name names
one_of_names name [] none = absurd (false≢true none)
one_of_names name (other ∷ names) h = go (one_of_names name names) (same_name name other) refl h
  where
    go : (has_name names name ≡ true → IsOneOf name names) →
        (b : Bool) →
        same_name name other ≡ b →
        (b || has_name names name) ≡ true →
        IsOneOf name (other ∷ names)
    go rest true same e = inl ((same_name-Decides name other).0 same)
    go rest false same e = inr (rest e)

-- and the other way round
pub has_one_of_names : (name : Name) (names : List Name) → IsOneOf name names → has_name names name ≡ true
has_one_of_names name [] none = absurd none
has_one_of_names name (other ∷ names) (inl same) = ap (λ b. b || has_name names name) ((same_name-Decides name other).1 same)
has_one_of_names name (other ∷ names) (inr later) = ap (λ b. same_name name other || b) (has_one_of_names name names later) ∙ or_true (same_name name other)
  where
    or_true : (b : Bool) → (b || true) ≡ true
    or_true true = refl
    or_true false = refl

-- a name that the list has and another that it lacks differ
pub differs : (names : List Name) (name other : Name) → has_name names name ≡ true → has_name names other ≡ false → name ≢ other
differs names name other has lacks same = true≢false (sym has ∙ ap (has_name names) same ∙ lacks)

-- a name that is first among distinct ones is not there once more
pub lacks_the_first : (name other : Name) (names : List Name) → IsDistinct same_name (other ∷ names) → same_name name other ≡ true → has_name names name ≡ false
lacks_the_first name other names distinct same =
    lacks_from_each name names (subst (λ n. Each (λ later. same_name n later ≡ false) names)
    (sym ((same_name-Decides name other).0 same)) (IsDistinct-head same_name other names distinct))

-- among distinct names a name is once or not at all
pub counts_once : (name : Name) (names : List Name) → IsDistinct same_name names → count_by (same_name name) names ≡ cond (has_name names name) 1 0
counts_once name [] distinct = refl
counts_once name (other ∷ names) distinct =
    sum_by-cons (λ x. cond (same_name name x) 1 0) other names
    ∙ go (same_name name other) (has_name names name) (lacks_the_first name other names distinct)
    (counts_once name names (IsDistinct-tail same_name other names distinct))
  where
    go : (same has : Bool) →
        (same ≡ true → has ≡ false) →
        count_by (same_name name) names ≡ cond has 1 0 →
        cond same 1 0 + count_by (same_name name) names ≡ cond (same || has) 1 0
    go true true apart counted = absurd (true≢false (apart refl))
    go true false apart counted = ap (λ n. 1 + n) counted
    go false has apart counted = zero-add (count_by (same_name name) names) ∙ counted

-- ---- counts

-- if none passes the test, the count is 0
pub counts_none : {X : Type 0} (test : X → Bool) (xs : List X) → Each (λ x. test x ≡ false) xs → count_by test xs ≡ 0
counts_none test [] h = refl
counts_none test (x ∷ xs) h =
    sum_by-cons (λ y. cond (test y) 1 0) x xs ∙ ap (λ b. cond b 1 0 + count_by test xs) h.0 ∙ zero-add (count_by test xs) ∙ counts_none test xs h.1

-- the counts of two lists add up
pub count-append : {X : Type 0} (test : X → Bool) (xs ys : List X) → count_by test (xs ++ ys) ≡ count_by test xs + count_by test ys
count-append test [] ys = sym (zero-add (count_by test ys))
count-append test (x ∷ xs) ys =
    sum_by-cons (λ z. cond (test z) 1 0) x (xs ++ ys)
    ∙ ap (λ n. cond (test x) 1 0 + n) (count-append test xs ys)
    ∙ regroup (cond (test x) 1 0) (count_by test xs) (count_by test ys)
    ∙ ap (λ n. n + count_by test ys) (sym (sum_by-cons (λ z. cond (test z) 1 0) x xs))
  where
    regroup : (a b c : ℕ) → a + (b + c) ≡ (a + b) + c
    regroup a b c = omega arith
