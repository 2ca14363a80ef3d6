use Rattle.std.proofs.Common.{◌≡◌, All}
use Rattle.node_threads.specs.Leaving.{GoesTo}
use Rattle.node_threads.proofs.host.writing.write_frames.Given as goal

-- the outlets so far are of links to the same name
abbrev pub invariant-loop : goal.invariant-loop
invariant-loop g l =
    (goal.iterator-loop g).can_next l.iterator' ×
    (goal.iterator-loop g).is_finite l.iterator' ×
    (l.link.outlet.peer ≡ l.fn.link.outlet.peer) ×
    All (GoesTo l.fn.link.outlet.peer) l.link.spent.items
