-- The content of a packet, as its receiver reads it.
use Rattle.std.specs.Prelude.{ℕ, Bool, List, Option}
use Rattle.node_names.specs.declared.ids.MsgId.{MsgId}

-- The content of a packet: the message that it carries, with its payload; the ids that it announces, each
-- with a round; the id that it asks for; and whether it is about membership alone.
pub record Content : Type 0 where
  pub carried : Option (MsgId × List ℕ)
  pub announced : List (MsgId × ℕ)
  pub asked : Option MsgId
  pub is_membership : Bool
