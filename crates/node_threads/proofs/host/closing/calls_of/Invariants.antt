use Rattle.std.proofs.Common.{◌≡◌, ◌++◌}
use Rattle.node_threads.proofs.host.closing.calls_of.Given as goal

-- the calls of the ports so far are listed, and the others are left
abbrev pub invariant-loop-port : goal.invariant-loop-port
invariant-loop-port g l =
    (goal.iterator-loop-port g).can_next l.port-iterator ×
    (goal.iterator-loop-port g).is_finite l.port-iterator ×
    (l.yielded ++ l.port-iterator.rest.items ≡ l.fn.ports.items) ×
    (l.calls.items ≡ l.yielded)
