-- Broadcasting leaves what waits to be handed out.
use Rattle.std.proofs.Common.{◌≡◌}
use Rattle.loop_ports.proofs.lane.Lane.broadcast_some.Given as goal

abbrev pub invariant-loop : goal.invariant-loop
invariant-loop g l = l.self.deliveries ≡ l.initial.self.deliveries
