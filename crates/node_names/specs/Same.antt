-- What `==` computes on names and ids, and that it decides equality.
use Rattle.std.specs.Prelude.{◌≡◌, ◌&&◌, Bool, false, List, Contains, Option, None, Some, nat_eq}
use Rattle.std.specs.Bool.{Decides}
use Rattle.std.specs.List.{list_any}
use Rattle.std.specs.Cmp.{IsEquivalence, decided, unsigned_Decides}
use Rattle.std.specs.Cmp.Lexicographic.{pointwise, pointwise_decides, bytes_decides}
use Rattle.std.proofs.Common.{ap}
use Rattle.std.proofs.lemmas.Bool.Decides.{Decides-like, Decides-and}
use Rattle.std.proofs.lemmas.Map.Views.{Contains-from_any, list_any-from_Contains}
use Rattle.node_names.specs.NodeName.{Name}
use Rattle.node_names.specs.declared.ids.Origin.{Origin}
use Rattle.node_names.specs.declared.ids.MsgId.{MsgId}

-- whether two names have the same bytes
abbrev pub same_name : Name → Name → Bool
same_name a b = pointwise nat_eq a b

-- whether two origins have the same name and incarnation
abbrev pub same_origin : Origin → Origin → Bool
same_origin a b = same_name a.name b.name && nat_eq a.incarnation.0 b.incarnation.0

-- whether two ids have the same origin and number
abbrev pub same_id : MsgId → MsgId → Bool
same_id a b = same_origin a.origin b.origin && nat_eq a.seq b.seq

-- whether a list contains a name
abbrev pub has_name : List Name → Name → Bool
has_name names name = list_any (same_name name) names

-- whether the name is left out, where None leaves out no name
abbrev pub is_left_out : Option Name → Name → Bool
is_left_out None name = false
is_left_out (Some left_out) name = same_name left_out name

-- whether a list contains an id
abbrev pub has_id : List MsgId → MsgId → Bool
has_id ids id = list_any (same_id id) ids

-- ---- each test holds exactly of equal values

pub same_name-Decides : (a b : Name) → Decides (same_name a b) (a ≡ b)
same_name-Decides a b = bytes_decides a b

pub same_origin-Decides : (a b : Origin) → Decides (same_origin a b) (a ≡ b)
same_origin-Decides a b =
    Decides-like (same_origin a b)
    (λ e i. record { name = e.0 i; incarnation = record { 0 = e.1 i } })
    (λ e. (ap (λ (o : Origin). o.name) e, ap (λ (o : Origin). o.incarnation.0) e))
    (Decides-and _ _ (same_name-Decides a.name b.name) (unsigned_Decides a.incarnation.0 b.incarnation.0))

pub same_id-Decides : (a b : MsgId) → Decides (same_id a b) (a ≡ b)
same_id-Decides a b =
    Decides-like (same_id a b)
    (λ e i. record { origin = e.0 i; seq = e.1 i })
    (λ e. (ap (λ (id : MsgId). id.origin) e, ap (λ (id : MsgId). id.seq) e))
    (Decides-and _ _ (same_origin-Decides a.origin b.origin) (unsigned_Decides a.seq b.seq))

-- ---- each test is an equivalence, as the lemmas on maps and sets require

pub same_name-laws : IsEquivalence same_name
same_name-laws = decided same_name same_name-Decides

pub same_origin-laws : IsEquivalence same_origin
same_origin-laws = decided same_origin same_origin-Decides

pub same_id-laws : IsEquivalence same_id
same_id-laws = decided same_id same_id-Decides

-- ---- lists of names and of ids

pub same_names-Decides : (xs ys : List Name) → Decides (pointwise same_name xs ys) (xs ≡ ys)
same_names-Decides = pointwise_decides same_name-Decides

pub same_ids-Decides : (xs ys : List MsgId) → Decides (pointwise same_id xs ys) (xs ≡ ys)
same_ids-Decides = pointwise_decides same_id-Decides

pub has_name-Decides : (names : List Name) (name : Name) → Decides (has_name names name) (Contains names name)
has_name-Decides names name =
    (Contains-from_any (λ x y. (same_name-Decides x y).0) name names, list_any-from_Contains same_name-laws name names)

pub has_id-Decides : (ids : List MsgId) (id : MsgId) → Decides (has_id ids id) (Contains ids id)
has_id-Decides ids id =
    (Contains-from_any (λ x y. (same_id-Decides x y).0) id ids, list_any-from_Contains same_id-laws id ids)
