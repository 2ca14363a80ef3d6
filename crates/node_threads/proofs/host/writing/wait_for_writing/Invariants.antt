use Rattle.std.proofs.Common.{◌≡◌}
use Rattle.node_threads.proofs.host.writing.wait_for_writing.Given as goal

-- nothing was taken out of the outlet
abbrev pub invariant-loop : goal.invariant-loop
invariant-loop g l =
    (goal.iterator-loop g).can_next l.iterator'
    × (goal.iterator-loop g).is_finite l.iterator'
    × (l.outlet.peer ≡ l.fn.outlet.peer)
    × (l.outlet.given ≡ l.fn.outlet.given)
