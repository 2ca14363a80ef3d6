use Rattle.std.proofs.Common.{◌≡◌, length, take}
use Rattle.wire_node.proofs.outgoing.Outgoing.truncate.Given as goal

abbrev pub invariant-loop-self : goal.invariant-loop-self
invariant-loop-self g l = take l.len l.self ≡ take l.fn.len l.fn.self

abbrev pub decreases-loop-self : goal.decreases-loop-self
decreases-loop-self g l = length l.self
