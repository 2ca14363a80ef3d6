use Rattle.std.proofs.Common.{◌≡◌, take}
use Rattle.wire_node.specs.Ticking.{lacked_of}
use Rattle.wire_node.proofs.asking.lacked_of.Given as goal

-- those of the ids so far
abbrev pub invariant-loop-id : goal.invariant-loop-id
invariant-loop-id g l = l.lacked.items ≡ lacked_of l.engine (take l.id-index l.ids)
