-- Lists of members.
use Rattle.std.specs.Prelude.{◌≡◌, ◌&&◌, ◌||◌, Bool, true, false, not, List, [], ◌∷◌, ◌++◌, Option, filter, refl, if◌then◌else◌}
use Rattle.std.specs.List.{AllByRecursion as Each, IsDistinct, list_any}
use Rattle.std.proofs.Common.{ap, sym, subst, ◌∙◌}
use Rattle.std.proofs.lemmas.List.{map-append}
use Rattle.std.proofs.lemmas.List.Folds.{list_any-append}
use Rattle.std.proofs.lemmas.Map.Keys.{IsDistinct-head, IsDistinct-tail, IsDistinct-push}
use Rattle.std.proofs.lemmas.Map.Made.{IsDistinct-keys_filter}
use Rattle.std.proofs.lemmas.Map.Views.{any-filter_same}
use Rattle.node_names.specs.NodeName.{Name}
use Rattle.node_names.specs.Same.{same_name, same_name-Decides, same_name-laws, has_name, is_left_out}
use Rattle.node_names.proofs.Distinct.{each-weaker, each-map, each-filter}
use Rattle.peer_sets.specs.Members.{names, is_member, is_eager, is_lazy, is_eager_kind, IsSplit, lazy_but, all_eager, with_member, without_member, with_kind}
use Rattle.peer_sets.specs.declared.members.PeerKind.{PeerKind}
use Rattle.peer_sets.specs.declared.members.PeerKind.TheVariants.{Eager}

or_true : (b : Bool) → (b || true) ≡ true
or_true true = refl
or_true false = refl

-- a name is a member where it is among the names
pub is_member-names : (members : List (Name × PeerKind)) (name : Name) → is_member members name ≡ has_name (names members) name
is_member-names [] name = refl
is_member-names (m ∷ members) name = ap (λ b. same_name name m.0 || b) (is_member-names members name)

-- so lists with the same names have the same members
pub is_member-same : (members others : List (Name × PeerKind)) → names members ≡ names others → (name : Name) → is_member members name ≡ is_member others name
is_member-same members others same name = is_member-names members name ∙ ap (λ ns. has_name ns name) same ∙ sym (is_member-names others name)

-- each member is one
pub each_is_member : (members : List (Name × PeerKind)) → Each (λ m. is_member members m.0 ≡ true) members
each_is_member [] = tt
each_is_member (m ∷ members) = (
  ap (λ b. b || is_member members m.0) ((same_name-Decides m.0 m.0).1 refl),
  each-weaker (λ other. is_member members other.0 ≡ true) (λ other. is_member (m ∷ members) other.0 ≡ true)
      (λ other is. ap (λ b. same_name other.0 m.0 || b) is ∙ or_true (same_name other.0 m.0)) members (each_is_member members),
)

-- ---- eager and lazy

-- a name that differs from all names is no member of any kind
lacks_from_each : (test : PeerKind → Bool) (name : Name) (members : List (Name × PeerKind)) →
    Each (λ other. same_name name other ≡ false) (names members) →
    list_any (λ m. same_name name m.0 && test m.1) members ≡ false
lacks_from_each test name [] h = refl
lacks_from_each test name (m ∷ members) h =
    ap (λ b. b && test m.1 || list_any (λ m. same_name name m.0 && test m.1) members) h.0 ∙ lacks_from_each test name members h.1

has_a_kind : (members : List (Name × PeerKind)) (name : Name) → is_member members name ≡ (is_eager members name || is_lazy members name)
has_a_kind [] name = refl
has_a_kind (m ∷ members) name = go (same_name name m.0) (is_eager_kind m.1) (is_eager members name) (is_lazy members name) (has_a_kind members name)
  where
    go : (same is_eager_one eager lazy : Bool) →
        is_member members name ≡ (eager || lazy) →
        (same || is_member members name) ≡ ((same && is_eager_one || eager) || (same && not is_eager_one || lazy))
    go true true eager lazy later = refl
    go true false eager lazy later = sym (or_true eager)
    go false is_eager_one eager lazy later = later

has_one_kind : (members : List (Name × PeerKind)) →
    IsDistinct same_name (names members) →
    (name : Name) →
    (is_eager members name && is_lazy members name) ≡ false
has_one_kind [] distinct name = refl
has_one_kind (m ∷ members) distinct name = go (same_name name m.0) refl (has_one_kind members (IsDistinct-tail same_name m.0 (names members) distinct) name)
  where
    go : (same : Bool) →
        same_name name m.0 ≡ same →
        (is_eager members name && is_lazy members name) ≡ false →
        ((same && is_eager_kind m.1 || is_eager members name) && (same && not (is_eager_kind m.1) || is_lazy members name)) ≡ false
    go false is later = later
    go true is later =
        first (is_eager_kind m.1) (is_eager members name) (is_lazy members name)
        (lacks_from_each is_eager_kind name members apart) (lacks_from_each (λ kind. not (is_eager_kind kind)) name members apart)
      where
        apart : Each (λ other. same_name name other ≡ false) (names members)
        apart =
            subst (λ n. Each (λ other. same_name n other ≡ false) (names members))
            (sym ((same_name-Decides name m.0).0 is)) (IsDistinct-head same_name m.0 (names members) distinct)

        first : (is_eager_one eager lazy : Bool) → eager ≡ false → lazy ≡ false → ((is_eager_one || eager) && (not is_eager_one || lazy)) ≡ false
        first true eager lazy e l = l
        first false eager lazy e l = ap (λ b. b && true) e

-- distinct members are split
pub split_from_distinct : (members : List (Name × PeerKind)) → IsDistinct same_name (names members) → IsSplit members
split_from_distinct members distinct = record { each_has_a_kind = has_a_kind members; none_has_both = has_one_kind members distinct }

-- ---- what the changes leave

pub names-all_eager : (peers : List Name) → names (all_eager peers) ≡ peers
names-all_eager [] = refl
names-all_eager (peer ∷ peers) = ap (λ ns. peer ∷ ns) (names-all_eager peers)

pub names-with_kind : (name : Name) (kind : PeerKind) (members : List (Name × PeerKind)) → names (with_kind name kind members) ≡ names members
names-with_kind name kind [] = refl
names-with_kind name kind (m ∷ members) = go (same_name name m.0) (names-with_kind name kind members)
  where
    go : (b : Bool) →
        names (with_kind name kind members) ≡ names members →
        ◌≡◌ {A = List Name} ((if b then (m.0, kind) else m).0 ∷ names (with_kind name kind members)) (m.0 ∷ names members)
    go true later = ap (λ ns. m.0 ∷ ns) later
    go false later = ap (λ ns. m.0 ∷ ns) later

pub distinct-with_member : (name : Name) (members : List (Name × PeerKind)) →
    IsDistinct same_name (names members) →
    IsDistinct same_name (names (with_member name members))
distinct-with_member name members distinct = go (is_member members name) refl
  where
    go : (b : Bool) → is_member members name ≡ b → IsDistinct same_name (names (if b then members else members ++ (name, Eager) ∷ []))
    go true is = distinct
    go false is =
        subst (IsDistinct same_name) (sym (map-append (λ (m : Name × PeerKind). m.0) members ((name, Eager) ∷ [])))
        (IsDistinct-push same_name-laws (names members) name distinct (sym (is_member-names members name) ∙ is))

pub stays-with_member : (name : Name) (members : List (Name × PeerKind)) (other : Name) →
    is_member members other ≡ true →
    is_member (with_member name members) other ≡ true
stays-with_member name members other is = go (is_member members name)
  where
    go : (b : Bool) → is_member (if b then members else members ++ (name, Eager) ∷ []) other ≡ true
    go true = is
    go false =
        list_any-append (λ (m : Name × PeerKind). same_name other m.0) members ((name, Eager) ∷ []) ∙ ap (λ b. b || is_member ((name, Eager) ∷ []) other) is

pub distinct-without_member : (name : Name) (members : List (Name × PeerKind)) →
    IsDistinct same_name (names members) →
    IsDistinct same_name (names (without_member name members))
distinct-without_member name members distinct = IsDistinct-keys_filter same_name (λ m. not (same_name name m.0)) members distinct

pub stays-without_member : (name : Name) (members : List (Name × PeerKind)) (other : Name) →
    is_member members other ≡ true →
    not (same_name name other) ≡ true →
    is_member (without_member name members) other ≡ true
stays-without_member name members other is apart =
    any-filter_same (λ m. same_name other m.0) (λ m. not (same_name name m.0)) true
    (λ m same. ap (λ n. not (same_name name n)) (sym ((same_name-Decides other m.0).0 same)) ∙ apart) members
    ∙ is

-- ---- the lazy members except one

pub distinct-lazy_but : (left_out : Option Name) (members : List (Name × PeerKind)) →
    IsDistinct same_name (names members) →
    IsDistinct same_name (lazy_but left_out members)
distinct-lazy_but left_out members distinct = IsDistinct-keys_filter same_name (λ m. not (is_eager_kind m.1) && not (is_left_out left_out m.0)) members distinct

pub lazy_but_are_members : (left_out : Option Name) (members : List (Name × PeerKind)) →
    Each (λ name. is_member members name ≡ true) (lazy_but left_out members)
lazy_but_are_members left_out members =
    each-map (λ (m : Name × PeerKind). m.0) (λ name. is_member members name ≡ true)
    (filter (λ m. not (is_eager_kind m.1) && not (is_left_out left_out m.0)) members)
    (each-filter (λ m. is_member members m.0 ≡ true) (λ m. is_member members m.0 ≡ true)
    (λ m. not (is_eager_kind m.1) && not (is_left_out left_out m.0)) (λ m is passes. is) members (each_is_member members))
