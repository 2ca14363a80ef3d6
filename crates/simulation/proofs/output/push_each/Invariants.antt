use Rattle.std.proofs.Common.{◌≡◌, ◌++◌, map, take}
use Rattle.simulation.proofs.output.push_each.Given as goal

abbrev pub invariant-loop-delivery : goal.invariant-loop-delivery
invariant-loop-delivery g l = map (λ d. d.now) l.found.items ≡ map (λ d. d.now) l.initial.found.items ++ take l.delivery-index l.given
