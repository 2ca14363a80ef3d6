-- What a node keeps of a connection that came in.
use Rattle.std.specs.Prelude.{Option}
use Rattle.node_names.specs.NodeName.{Name}
use Rattle.handshake.specs.declared.arrival.Addressee.{Addressee}
use Rattle.handshake.specs.State.{State}

-- the node that reads it, where its bytes stand, and the node that dialled, once its hello came
pub record Arrived : Type 0 where
  pub reader : Addressee
  pub inbound : State
  pub dialler : Option Name
