-- Names that are added or taken out in turn: the next one after those before it.
use Rattle.std.proofs.Common.{◌≡◌, ◌∙◌, ◌+◌, ◌<◌, ◌||◌, ℕ, Bool, true, false, not, cond, List, [], ◌∷◌, ◌++◌, length, take, filter, get_or, ap, refl}
use Rattle.std.specs.List.{list_any}
use Rattle.std.proofs.lemmas.List.{take_more}
use Rattle.node_names.specs.NodeName.{Name}
use Rattle.node_names.specs.Same.{same_name}
use Rattle.node_names.specs.declared.ids.MsgId.{MsgId}
use Rattle.peer_sets.specs.Members.{with_member, with_members, without_member, without_members}
use Rattle.peer_sets.specs.Queue.{without_entries, without_all_entries}
use Rattle.peer_sets.specs.declared.members.PeerKind.{PeerKind}

with_members-push : (names : List Name) (name : Name) (members : List (Name × PeerKind)) →
    with_members (names ++ name ∷ []) members ≡ with_member name (with_members names members)
with_members-push [] name members = refl
with_members-push (first ∷ names) name members = with_members-push names name (with_member first members)

pub with_members-take : (names : List Name) (i : ℕ) (d : Name) (members : List (Name × PeerKind)) →
    i < length names →
    with_members (take (i + 1) names) members ≡ with_member (get_or names i d) (with_members (take i names) members)
with_members-take names i d members within =
    ap (λ those. with_members those members) (take_more names i d within) ∙ with_members-push (take i names) (get_or names i d) members

without_members-push : (names : List Name) (name : Name) (members : List (Name × PeerKind)) →
    without_members (names ++ name ∷ []) members ≡ without_member name (without_members names members)
without_members-push [] name members = refl
without_members-push (first ∷ names) name members = without_members-push names name (without_member first members)

pub without_members-take : (names : List Name) (i : ℕ) (d : Name) (members : List (Name × PeerKind)) →
    i < length names →
    without_members (take (i + 1) names) members ≡ without_member (get_or names i d) (without_members (take i names) members)
without_members-take names i d members within =
    ap (λ those. without_members those members) (take_more names i d within) ∙ without_members-push (take i names) (get_or names i d) members

-- ---- entries that are taken out in one pass

-- a filter that drops nothing
filter-nothing : {X : Type 0} (xs : List X) → filter (λ x. not false) xs ≡ xs
filter-nothing [] = refl
filter-nothing (x ∷ xs) = ap (λ others. x ∷ others) (filter-nothing xs)

-- two filters in one
filter-both : {X : Type 0} (f h : X → Bool) (xs : List X) → filter (λ x. not (f x || h x)) xs ≡ filter (λ x. not (h x)) (filter (λ x. not (f x)) xs)
filter-both f h [] = refl
filter-both f h (x ∷ xs) = go (f x) (filter-both f h xs)
  where
    go : (b : Bool) →
        filter (λ y. not (f y || h y)) xs ≡ filter (λ y. not (h y)) (filter (λ y. not (f y)) xs) →
        cond (not (b || h x)) (x ∷ filter (λ y. not (f y || h y)) xs) (filter (λ y. not (f y || h y)) xs)
        ≡ filter (λ y. not (h y)) (cond (not b) (x ∷ filter (λ y. not (f y)) xs) (filter (λ y. not (f y)) xs))
    go true later = later
    go false later = ap (λ others. cond (not (h x)) (x ∷ others) others) later

-- what one pass leaves is what is left after one pass for each peer
pub without_all_entries-once : (peers : List Name) (queued : List (Name × MsgId × ℕ)) →
    filter (λ entry. not (list_any (λ peer. same_name peer entry.0) peers)) queued ≡ without_all_entries peers queued
without_all_entries-once [] queued = filter-nothing queued
without_all_entries-once (peer ∷ peers) queued =
    filter-both (λ entry. same_name peer entry.0) (λ entry. list_any (λ other. same_name other entry.0) peers) queued
    ∙ without_all_entries-once peers (without_entries peer queued)
