-- What the calls of a node's gossip yield.
use Rattle.std.specs.Prelude.{ℕ, List, Option}
use Rattle.node_names.specs.NodeName.{Name}
use Rattle.node_names.specs.declared.ids.MsgId.{MsgId}
use Rattle.frames.specs.Body.{Body}

-- The packets, each with its receiver, and the message that is delivered, if any.
pub record Effects : Type 0 where
  pub sends : List (Name × Body)
  pub delivered : Option (MsgId × List ℕ)
