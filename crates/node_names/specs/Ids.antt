-- The printed forms of origins and message ids.
use Rattle.std.specs.Prelude.{ℕ, List, ◌++◌, codes}
use Rattle.std.specs.Fmt.{decimal}
use Rattle.node_names.specs.declared.ids.Origin.{Origin}
use Rattle.node_names.specs.declared.ids.MsgId.{MsgId}

-- An origin is printed as its name, a slash and the incarnation.
abbrev pub origin_text : Origin → List ℕ
origin_text o = o.name ++ codes "/" ++ decimal o.incarnation.0

-- A message id is printed as its origin, a slash and the number.
abbrev pub msg_id_text : MsgId → List ℕ
msg_id_text id = origin_text id.origin ++ codes "/" ++ decimal id.seq
