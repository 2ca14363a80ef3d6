use Rattle.std.proofs.Common.{take}
use Rattle.trace_merge.specs.Numbers.{AreShort}
use Rattle.trace_merge.proofs.stepping.tell_numbers.Given as goal

-- the frames so far are told of
abbrev pub invariant-loop-send : goal.invariant-loop-send
invariant-loop-send g l = AreShort (take l.send-index l.sends)
