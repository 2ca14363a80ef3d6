use Rattle.std.proofs.Common.{◌≡◌, take}
use Rattle.node_names.specs.Slots.{somes}
use Rattle.missing.specs.Slots.{AreTimed}
use Rattle.missing.proofs.timers.copy.Given as goal

abbrev pub invariant-loop-slot : goal.invariant-loop-slot
invariant-loop-slot g l = (somes l.copy.slots.items ≡ somes (take l.slot-index l.slot-items)) × AreTimed l.copy.slots.items l.copy.places l.copy.gone
