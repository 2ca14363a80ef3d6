use Rattle.std.proofs.Common.{◌≡◌, [], replicate}
use Rattle.node_threads.proofs.host.new_ports.Given as goal

-- the ports so far are made, without calls
abbrev pub invariant-loop : goal.invariant-loop
invariant-loop g l = l.ports.items ≡ replicate l.counter []
