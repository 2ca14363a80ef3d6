-- A body as the definitions see it: its payload is a list of bytes, and its lists are plain lists.
use Rattle.std.specs.Prelude.{ℕ, List}
use Rattle.node_names.specs.NodeName.{Name}
use Rattle.node_names.specs.declared.ids.MsgId.{MsgId}
use Rattle.frames.specs.declared.body.BodyOf.{BodyOf}

abbrev pub Body : Type 0
Body = BodyOf (List ℕ) (List Name) (List (MsgId × ℕ))
