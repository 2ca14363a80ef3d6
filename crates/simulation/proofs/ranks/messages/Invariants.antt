use Rattle.std.proofs.Common.{All, Contains, take}
use Rattle.simulation.proofs.ranks.messages.Given as goal

abbrev pub invariant-loop-delivery : goal.invariant-loop-delivery
invariant-loop-delivery g l = All (λ d. Contains l.ids.keys d.now.id) (take l.delivery-index l.deliveries)
