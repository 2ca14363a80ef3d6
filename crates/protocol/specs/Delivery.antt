-- A delivery: which run of which node got which message.
use Rattle.std.specs.Prelude.{ℕ, List}
use Rattle.node_names.specs.declared.ids.Origin.{Origin}
use Rattle.node_names.specs.declared.ids.MsgId.{MsgId}

-- The node delivered the message of this id, with this payload, to its application.
pub record Delivery : Type 0 where
  pub node : Origin
  pub id : MsgId
  pub payload : List ℕ
