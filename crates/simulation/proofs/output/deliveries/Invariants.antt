use Rattle.std.proofs.Common.{◌≡◌, map, take}
use Rattle.std.specs.Prelude.{reverse}
use Rattle.world.specs.History.{deliveries}
use Rattle.simulation.proofs.output.deliveries.Given as goal

abbrev pub invariant-loop-entry : goal.invariant-loop-entry
invariant-loop-entry g l = map (λ d. d.now) l.found.items ≡ deliveries (reverse (take l.entry-index l.log))
