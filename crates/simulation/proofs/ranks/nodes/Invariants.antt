use Rattle.std.proofs.Common.{All, Contains, take}
use Rattle.simulation.proofs.ranks.nodes.Given as goal

abbrev pub invariant-loop-delivery : goal.invariant-loop-delivery
invariant-loop-delivery g l = All (λ d. Contains l.nodes.keys d.now.node) (take l.delivery-index l.deliveries)
