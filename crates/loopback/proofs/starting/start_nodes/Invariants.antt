use Rattle.std.proofs.Common.{◌≡◌, length}
use Rattle.loopback.proofs.starting.start_nodes.Given as goal

-- one node for each member so far
abbrev pub invariant-loop-member : goal.invariant-loop-member
invariant-loop-member l = length l.nodes.items ≡ length l.yielded
