use Rattle.std.proofs.Common.{◌≤◌, ◌+◌, ◌-◌, ◌++◌, drop, length}
use Rattle.frames.specs.declared.TheConstants.{MAX_FRAME}
use Rattle.wire_node.specs.Receiving.{Takes}
use Rattle.wire_node.proofs.receiving.finish_cut.Given as goal

-- the frames so far were taken
abbrev pub invariant-loop-engine : goal.invariant-loop-engine
invariant-loop-engine g l =
    (l.at ≤ length l.bytes)
    × (length l.left.items ≤ MAX_FRAME)
    × Takes l.fn.engine l.fn.peer (l.fn.left.items ++ l.bytes) (g.D.DiceSource.to_come l.fn.source) l.engine l.peer (l.left.items ++ drop l.at l.bytes)
    (g.D.DiceSource.to_come l.source)

abbrev pub decreases-loop-engine : goal.decreases-loop-engine
decreases-loop-engine g l = (length l.bytes - l.at) + (length l.bytes - l.at) + length l.left.items
