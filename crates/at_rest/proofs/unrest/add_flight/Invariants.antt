use Rattle.std.proofs.Common.{take}
use Rattle.at_rest.specs.Unrest.{Adds, flight_ids}
use Rattle.at_rest.proofs.unrest.add_flight.Given as goal

abbrev pub invariant-loop-number : goal.invariant-loop-number
invariant-loop-number g l = Adds l.initial.ids.keys (flight_ids g.N.Wire.content l.sent (take l.number-index l.flight)) l.ids.keys
