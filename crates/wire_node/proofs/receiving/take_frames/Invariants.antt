use Rattle.std.proofs.Common.{◌≤◌, ◌-◌, drop, length}
use Rattle.wire_node.specs.Receiving.{Takes}
use Rattle.wire_node.proofs.receiving.take_frames.Given as goal

-- the frames so far were taken
abbrev pub invariant-loop-frame : goal.invariant-loop-frame
invariant-loop-frame g l =
    (l.at ≤ length l.bytes)
    × Takes l.fn.engine l.fn.peer l.bytes (g.D.DiceSource.to_come l.fn.source) l.engine l.peer (drop l.at l.bytes) (g.D.DiceSource.to_come l.source)

abbrev pub decreases-loop-frame : goal.decreases-loop-frame
decreases-loop-frame g l = length l.bytes - l.at
