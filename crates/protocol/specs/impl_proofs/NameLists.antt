-- Lemmas on tests and on lists of names, for the proofs of the laws: proofs, with nothing to take on trust.
use Rattle.std.specs.Prelude.{◌≡◌, ◌≢◌, ◌≤◌, ◌&&◌, ◌||◌, ℕ, Bool, true, false, not, cond, List, [], ◌∷◌, Option, IsTrue, length, map, filter, refl, nat_le}
use Rattle.std.specs.List.{AllByRecursion as Each, IsDistinct}
use Rattle.std.specs.Set.{remove_key}
use Rattle.std.proofs.Common.{sym, ◌∙◌, ap, zero-le, suc-le-suc}
use Rattle.std.proofs.Math.Nat.{le-suc}
use Rattle.std.proofs.lemmas.Bool.{false≢true, leb-true, true≢false}
use Rattle.node_names.specs.NodeName.{Name}
use Rattle.node_names.specs.Limits.{Limits}
use Rattle.node_names.specs.Same.{same_name, has_name, same_name-Decides}
use Rattle.protocol.specs.Peers.{are_distinct, are_peers, is_contact}

-- ---- tests

pub and_left : (a b : Bool) → (a && b) ≡ true → a ≡ true
and_left true b h = refl
and_left false b h = h

pub and_right : (a b : Bool) → (a && b) ≡ true → b ≡ true
and_right true b h = h
and_right false b h = absurd (false≢true h)

pub not_true : (b : Bool) → not b ≡ true → b ≡ false
not_true true h = absurd (false≢true h)
not_true false h = refl

pub and_true : (b : Bool) → (b && true) ≡ b
and_true true = refl
and_true false = refl

pub within_bound : (a b : ℕ) → nat_le a b ≡ true → a ≤ b
within_bound a b h = leb-true a b h

-- what holds of both branches holds of the one that is taken
pub either_way : {X : Type 0} (P : X → Type 0) (b : Bool) (x y : X) → P x → P y → P (cond b x y)
either_way P true x y p q = p
either_way P false x y p q = q

-- ---- what holds of each element

-- what holds of every image holds of each element of the mapped list
pub each-map : {X Y : Type 0} (f : X → Y) (P : Y → Type 0) (xs : List X) → Each (λ x. P (f x)) xs → Each P (map f xs)
each-map f P [] h = tt
each-map f P (x ∷ xs) h = (h.0, each-map f P xs h.1)

-- what holds of everything holds of each element
pub each-all : {X : Type 0} (P : X → Type 0) → ((x : X) → P x) → (xs : List X) → Each P xs
each-all P all [] = tt
each-all P all (x ∷ xs) = (all x, each-all P all xs)

-- a filter keeps what holds of each element
pub each-filter : {X : Type 0} (P : X → Type 0) (test : X → Bool) (xs : List X) → Each P xs → Each P (filter test xs)
each-filter P test [] h = tt
each-filter P test (x ∷ xs) h = either_way (Each P) (test x) (x ∷ filter test xs) (filter test xs) (h.0, each-filter P test xs h.1) (each-filter P test xs h.1)

-- and so does the removal of a key
pub each-remove_key : {X : Type 0} (P : X → Type 0) (test : X → Bool) (xs : List X) → Each P xs → Each P (remove_key test xs)
each-remove_key P test [] h = tt
each-remove_key P test (x ∷ xs) h = either_way (Each P) (test x) xs (x ∷ remove_key test xs) h.1 (h.0, each-remove_key P test xs h.1)

-- ---- lists of names

-- a list without the name has only names that the test tells from it
pub each_differs : (name : Name) (names : List Name) → has_name names name ≡ false → Each (λ other. same_name name other ≡ false) names
each_differs name [] h = tt
each_differs name (other ∷ names) h = go (same_name name other) (each_differs name names) refl h
  where
    go : (b : Bool) →
        (has_name names name ≡ false → Each (λ other. same_name name other ≡ false) names) →
        same_name name other ≡ b →
        (b || has_name names name) ≡ false →
        Each (λ other. same_name name other ≡ false) (other ∷ names)
    go true later is h = absurd (true≢false h)
    go false later is h = (is, later h)

-- and the other way round
pub lacks_from_each : (name : Name) (names : List Name) → Each (λ other. same_name name other ≡ false) names → has_name names name ≡ false
lacks_from_each name [] h = refl
lacks_from_each name (other ∷ names) h = ap (λ b. b || has_name names name) h.0 ∙ lacks_from_each name names h.1

-- a list without the name has only other names
pub each_is_other : (name : Name) (names : List Name) → has_name names name ≡ false → Each (λ other. other ≢ name) names
each_is_other name names lacks = go names (each_differs name names lacks)
  where
    go : (others : List Name) → Each (λ other. same_name name other ≡ false) others → Each (λ other. other ≢ name) others
    go [] h = tt
    go (other ∷ others) h =
        ((λ e. let same : same_name name other ≡ true = (same_name-Decides name other).1 (sym e) in absurd (true≢false (sym same ∙ h.0))), go others h.1)

-- names that are distinct by the test are distinct
pub distinct_names : (names : List Name) → are_distinct names ≡ true → IsDistinct same_name names
unfolding IsDistinct
distinct_names [] h = tt
distinct_names (name ∷ names) h = (
  each_differs name names (not_true (has_name names name) (and_left (not (has_name names name)) (are_distinct names) h)),
  distinct_names names (and_right (not (has_name names name)) (are_distinct names) h),
)

-- the empty list is distinct
pub distinct_none : IsDistinct same_name []
unfolding IsDistinct
distinct_none = tt

-- a filter keeps names distinct
pub distinct-filter : (test : Name → Bool) (names : List Name) → IsDistinct same_name names → IsDistinct same_name (filter test names)
unfolding IsDistinct
distinct-filter test [] h = tt
distinct-filter test (name ∷ names) h =
    either_way (IsDistinct same_name) (test name) (name ∷ filter test names) (filter test names)
    (each-filter (λ other. same_name name other ≡ false) test names h.0, distinct-filter test names h.1) (distinct-filter test names h.1)

-- and so does the removal of a name
pub distinct-remove_key : (test : Name → Bool) (names : List Name) → IsDistinct same_name names → IsDistinct same_name (remove_key test names)
unfolding IsDistinct
distinct-remove_key test [] h = tt
distinct-remove_key test (name ∷ names) h = either_way (IsDistinct same_name) (test name) names (name ∷ remove_key test names) h.1 (
  each-remove_key (λ other. same_name name other ≡ false) test names h.0,
  distinct-remove_key test names h.1,
)

-- which makes no list longer
pub shorter-remove_key : (test : Name → Bool) (names : List Name) → length (remove_key test names) ≤ length names
shorter-remove_key test [] = zero-le
shorter-remove_key test (name ∷ names) = shorter (shorter-remove_key test names)
  where
    shorter : length (remove_key test names) ≤ length names → length (remove_key test (name ∷ names)) ≤ length (name ∷ names)
    shorter h = either_way (λ left. length left ≤ length (name ∷ names)) (test name) names (name ∷ remove_key test names) (le-suc (length names)) (suc-le-suc h)

-- and brings no name in
pub lacks-remove_key : (test : Name → Bool) (name : Name) (names : List Name) → has_name names name ≡ false → has_name (remove_key test names) name ≡ false
lacks-remove_key test name names lacks =
    lacks_from_each name (remove_key test names) (each-remove_key (λ other. same_name name other ≡ false) test names (each_differs name names lacks))

-- peers that a node may start with are distinct
pub distinct_peers : (limits : Limits) (owner : Name) (peers : List Name) (contact : Option Name) →
    IsTrue (are_peers limits owner peers contact) →
    IsDistinct same_name peers
distinct_peers limits owner peers contact fit =
    distinct_names peers (and_left (are_distinct peers) (not (has_name peers owner) && not (is_contact contact owner))
    (and_right (nat_le (length peers) limits.active) (are_distinct peers && (not (has_name peers owner) && not (is_contact contact owner))) fit))
