-- An event as the definitions see it: its payload is a list of bytes, and its peers are a list of names.
use Rattle.std.specs.Prelude.{ℕ, List}
use Rattle.node_names.specs.NodeName.{Name}
use Rattle.node_names.specs.declared.dice.Dice.{Dice}
use Rattle.world.specs.declared.event.EventOf.{EventOf}

abbrev pub Event : Type 0
Event = EventOf (List ℕ) (List Name) Dice
