use Rattle.std.proofs.Common.{◌≡◌, length}
use Rattle.at_rest.specs.Load.{load_of}
use Rattle.at_rest.proofs.Settlings.{IsSettling}
use Rattle.at_rest.proofs.settling.settle.Given as goal

-- the group settles, and the length of its log before is known
abbrev pub invariant-loop-left : goal.invariant-loop-left
invariant-loop-left g l = IsSettling l.fn.world l.world l.left.queues l.left.timers × (l.before ≡ length l.fn.world.log)

-- each event leaves less
abbrev pub decreases-loop-left : goal.decreases-loop-left
decreases-loop-left g l = load_of l.world
