use Rattle.std.proofs.Common.{◌≡◌, map, take}
use Rattle.simulation.specs.Trees.{broadcasts_of}
use Rattle.simulation.proofs.trees.own_deliveries.Given as goal

abbrev pub invariant-loop-delivery : goal.invariant-loop-delivery
invariant-loop-delivery g l = l.ids.items ≡ broadcasts_of (map (λ d. d.now) (take l.delivery-index l.deliveries))
