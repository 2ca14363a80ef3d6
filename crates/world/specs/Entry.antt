-- An accepted event and what came of it.
use Rattle.std.specs.Prelude.{ℕ, Bool, List, Option}
use Rattle.protocol.specs.Delivery.{Delivery}
use Rattle.world.specs.Event.{Event}

-- The event; the place among all sent packets of the packet that it named; how many packets had been sent before it;
-- whether an active view changed as a set; and what was delivered.
pub record Entry : Type 0 where
  pub event : Event
  pub packet : Option ℕ
  pub first_sent : ℕ
  pub moved : Bool
  pub given : List Delivery
