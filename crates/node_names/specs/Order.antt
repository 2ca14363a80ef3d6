-- The order of names, origins and ids.
use Rattle.std.specs.declared.cmp.Ordering.{Ordering}
use Rattle.std.specs.Ordering.{nat_cmp, ordering_then}
use Rattle.std.specs.Cmp.Lexicographic.{slice_cmp}
use Rattle.node_names.specs.NodeName.{Name}
use Rattle.node_names.specs.declared.ids.Origin.{Origin}
use Rattle.node_names.specs.declared.ids.MsgId.{MsgId}

-- by the bytes, a proper prefix first
abbrev pub name_cmp : Name → Name → Ordering
name_cmp a b = slice_cmp nat_cmp a b

-- by name, then by incarnation
abbrev pub origin_cmp : Origin → Origin → Ordering
origin_cmp a b = ordering_then (name_cmp a.name b.name) (nat_cmp a.incarnation.0 b.incarnation.0)

-- by origin, then by number
abbrev pub id_cmp : MsgId → MsgId → Ordering
id_cmp a b = ordering_then (origin_cmp a.origin b.origin) (nat_cmp a.seq b.seq)
