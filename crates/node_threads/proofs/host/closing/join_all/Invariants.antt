use Rattle.std.proofs.Common.{◌≡◌, ◌++◌, true}
use Rattle.node_threads.specs.Leaving.{AreLeft, outlets_of}
use Rattle.node_threads.proofs.host.closing.join_all.Given as goal

-- what the workers so far left is listed as far as there was room, and the others are left
abbrev pub invariant-loop-worker : goal.invariant-loop-worker
invariant-loop-worker g l =
    (goal.iterator-loop-worker g).can_next l.worker-iterator ×
    (goal.iterator-loop-worker g).is_finite l.worker-iterator ×
    (l.yielded ++ l.worker-iterator.rest.items ≡ l.fn.workers.items) ×
    (l.kept ≡ true → AreLeft (outlets_of l.fn.given.items) l.yielded (outlets_of l.given.items))
