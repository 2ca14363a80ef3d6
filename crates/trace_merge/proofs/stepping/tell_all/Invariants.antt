use Rattle.trace_merge.specs.Merging.{sent_within}
use Rattle.trace_merge.specs.Numbers.{AreShort}
use Rattle.trace_merge.proofs.stepping.tell_all.Given as goal

-- the frames so far are told of
abbrev pub invariant-loop-at : goal.invariant-loop-at
invariant-loop-at g l = AreShort (sent_within l.at l.trace)
