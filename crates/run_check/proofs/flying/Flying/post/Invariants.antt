use Rattle.std.proofs.Common.{◌≡◌, ◌+◌, ◌≤◌, ◌++◌, length}
use Rattle.indexmap.specs.IndexMap.{spare}
use Rattle.world.specs.Group.{packets}
use Rattle.run_check.specs.Following.{Posts}
use Rattle.run_check.proofs.flying.Flying.post.Given as goal

-- the packets of the sends so far are in flight, the other sends are left, and there is room for them
abbrev pub invariant-loop-to : goal.invariant-loop-to
invariant-loop-to l =
    goal.iterator-loop-to.can_next l.to-iterator ×
    goal.iterator-loop-to.is_finite l.to-iterator ×
    (l.yielded ++ l.to-iterator.rest.items ≡ l.fn.sends.items) ×
    Posts l.fn.self.map.entries (packets l.fn.sender l.yielded) l.self.map.entries ×
    (length l.to-iterator.rest.items ≤ spare l.self.map)
