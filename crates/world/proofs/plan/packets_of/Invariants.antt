use Rattle.std.proofs.Common.{◌≡◌, ◌++◌}
use Rattle.world.specs.Group.{packets}
use Rattle.world.proofs.plan.packets_of.Given as goal

-- the packets of the sends so far are listed, and the other sends are left
abbrev pub invariant-loop-to : goal.invariant-loop-to
invariant-loop-to g l =
    (goal.iterator-loop-to g).can_next l.to-iterator ×
    (goal.iterator-loop-to g).is_finite l.to-iterator ×
    (l.yielded ++ l.to-iterator.rest.items ≡ l.fn.sends.items) ×
    (l.made.items ≡ packets l.fn.sender l.yielded)
