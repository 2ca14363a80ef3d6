-- The members of a node's peer sets, each eager or lazy.
use Rattle.std.specs.Prelude.{◌≡◌, ◌&&◌, ◌||◌, Bool, true, false, not, List, [], ◌∷◌, ◌++◌, Option, None, Some, map, filter, if◌then◌else◌}
use Rattle.std.specs.List.{list_any}
use Rattle.node_names.specs.NodeName.{Name}
use Rattle.node_names.specs.Same.{same_name, is_left_out}
use Rattle.peer_sets.specs.declared.members.PeerKind.{PeerKind}
use Rattle.peer_sets.specs.declared.members.PeerKind.TheVariants.{Eager, Lazy}

-- whether a peer of this kind gets payloads at once
abbrev pub is_eager_kind : PeerKind → Bool
is_eager_kind Eager = true
is_eager_kind Lazy = false

-- whether the name is a member
abbrev pub is_member : List (Name × PeerKind) → Name → Bool
is_member members name = list_any (λ m. same_name name m.0) members

-- whether the name is an eager member
abbrev pub is_eager : List (Name × PeerKind) → Name → Bool
is_eager members name = list_any (λ m. same_name name m.0 && is_eager_kind m.1) members

-- whether the name is a lazy member
abbrev pub is_lazy : List (Name × PeerKind) → Name → Bool
is_lazy members name = list_any (λ m. same_name name m.0 && not (is_eager_kind m.1)) members

-- Each member is eager or lazy, and no member is both.
pub record IsSplit (members : List (Name × PeerKind)) : Type 0 where
  pub each_has_a_kind : (name : Name) → is_member members name ≡ (is_eager members name || is_lazy members name)
  pub none_has_both : (name : Name) → (is_eager members name && is_lazy members name) ≡ false

-- the names of the members, in their order
abbrev pub names : List (Name × PeerKind) → List Name
names members = map (λ m. m.0) members

-- the names of the eager members except `left_out`, in their order
abbrev pub eager_but : Option Name → List (Name × PeerKind) → List Name
eager_but left_out members = names (filter (λ m. is_eager_kind m.1 && not (is_left_out left_out m.0)) members)

-- the names of the lazy members except `left_out`, in their order
abbrev pub lazy_but : Option Name → List (Name × PeerKind) → List Name
lazy_but left_out members = names (filter (λ m. not (is_eager_kind m.1) && not (is_left_out left_out m.0)) members)

-- the peers as members, all of them eager
abbrev pub all_eager : List Name → List (Name × PeerKind)
all_eager peers = map (λ peer. (peer, Eager)) peers

-- the members with the name added last as an eager one; a name that is a member already keeps its kind
abbrev pub with_member : Name → List (Name × PeerKind) → List (Name × PeerKind)
with_member name members = if is_member members name then members else members ++ (name, Eager) ∷ []

-- the members without this one
abbrev pub without_member : Name → List (Name × PeerKind) → List (Name × PeerKind)
without_member name members = filter (λ m. not (same_name name m.0)) members

-- the members, with the kind of the one of this name replaced
abbrev pub with_kind : Name → PeerKind → List (Name × PeerKind) → List (Name × PeerKind)
with_kind name kind members = map (λ m. if same_name name m.0 then (m.0, kind) else m) members

-- the members with each of these names added in turn
abbrev pub with_members : List Name → List (Name × PeerKind) → List (Name × PeerKind)
with_members [] members = members
with_members (name ∷ names) members = with_members names (with_member name members)

-- the members without these, removed in turn
abbrev pub without_members : List Name → List (Name × PeerKind) → List (Name × PeerKind)
without_members [] members = members
without_members (name ∷ names) members = without_members names (without_member name members)
