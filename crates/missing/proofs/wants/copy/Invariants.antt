use Rattle.std.proofs.Common.{◌≡◌, take}
use Rattle.node_names.specs.Slots.{somes}
use Rattle.missing.specs.Slots.{ArePlaced}
use Rattle.missing.proofs.wants.copy.Given as goal

abbrev pub invariant-loop-slot : goal.invariant-loop-slot
invariant-loop-slot g l = (somes l.slots.items ≡ somes (take l.slot-index l.slot-items)) × ArePlaced l.slots.items l.places
