use Rattle.std.proofs.Common.{take}
use Rattle.trace_merge.specs.FrameIds.{AreFound}
use Rattle.trace_merge.proofs.merging.note.Given as goal

-- the packets so far are found
abbrev pub invariant-loop-at : goal.invariant-loop-at
invariant-loop-at g l = AreFound (take l.at l.sent) l.frames.numbers.entries
