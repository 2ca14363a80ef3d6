use Rattle.std.proofs.Common.{◌≡◌, ◌≤◌, ◌++◌, length}
use Rattle.rtrb.specs.Ring.{known_free, sent}
use Rattle.node_threads.proofs.cell.opening.fill.Given as goal

-- the frames so far are in the ring, which has room for the others
abbrev pub invariant-loop-frame : goal.invariant-loop-frame
invariant-loop-frame g l =
    (goal.iterator-loop-frame g).can_next l.frame-iterator ×
    (goal.iterator-loop-frame g).is_finite l.frame-iterator ×
    (l.yielded ++ l.frame-iterator.rest.items ≡ l.fn.mail) ×
    (length l.frame-iterator.rest.items ≤ known_free l.ring) ×
    (sent l.ring ≡ sent l.fn.ring ++ l.yielded)
