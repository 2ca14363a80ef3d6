-- Announcements by their places, and filters of them.
use Rattle.std.proofs.Common.{◌≡◌, ◌||◌, ℕ, Bool, true, false, not, cond, List, [], ◌∷◌, ◌++◌, filter, map, ap, refl}
use Rattle.std.specs.Prelude.{if◌then◌else◌}
use Rattle.std.specs.List.{list_any}
use Rattle.node_names.specs.NodeName.{Name}
use Rattle.node_names.specs.declared.ids.MsgId.{MsgId}
use Rattle.missing.specs.Wants.{place_of, same_place, is_wanted, with_want}

-- an entry is in the list exactly if its place is among the places
pub is_wanted-places : (id : MsgId) (peer : Name) (wants : List (MsgId × Name × ℕ)) →
    list_any (same_place (id, peer)) (map place_of wants) ≡ is_wanted id peer wants
is_wanted-places id peer [] = refl
is_wanted-places id peer (entry ∷ wants) = ap (λ b. same_place (id, peer) (place_of entry) || b) (is_wanted-places id peer wants)

-- one more entry, where its place is new and where it is not
pub with_want-new : (id : MsgId) (peer : Name) (round : ℕ) (wants : List (MsgId × Name × ℕ)) →
    is_wanted id peer wants ≡ false →
    with_want id peer round wants ≡ wants ++ (id, peer, round) ∷ []
with_want-new id peer round wants new = ap (λ b. if b then wants else wants ++ (id, peer, round) ∷ []) new

pub with_want-old : (id : MsgId) (peer : Name) (round : ℕ) (wants : List (MsgId × Name × ℕ)) →
    is_wanted id peer wants ≡ true →
    with_want id peer round wants ≡ wants
with_want-old id peer round wants old = ap (λ b. if b then wants else wants ++ (id, peer, round) ∷ []) old

-- ---- filters

-- a filter that drops nothing
pub filter-nothing : {X : Type 0} (xs : List X) → filter (λ x. not false) xs ≡ xs
filter-nothing [] = refl
filter-nothing (x ∷ xs) = ap (λ others. x ∷ others) (filter-nothing xs)

-- two filters in one
pub filter-both : {X : Type 0} (f h : X → Bool) (xs : List X) → filter (λ x. not (f x || h x)) xs ≡ filter (λ x. not (h x)) (filter (λ x. not (f x)) xs)
filter-both f h [] = refl
filter-both f h (x ∷ xs) = go (f x) (filter-both f h xs)
  where
    go : (b : Bool) →
        filter (λ y. not (f y || h y)) xs ≡ filter (λ y. not (h y)) (filter (λ y. not (f y)) xs) →
        cond (not (b || h x)) (x ∷ filter (λ y. not (f y || h y)) xs) (filter (λ y. not (f y || h y)) xs)
        ≡ filter (λ y. not (h y)) (cond (not b) (x ∷ filter (λ y. not (f y)) xs) (filter (λ y. not (f y)) xs))
    go true later = later
    go false later = ap (λ others. cond (not (h x)) (x ∷ others) others) later
