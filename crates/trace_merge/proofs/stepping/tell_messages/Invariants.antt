use Rattle.std.proofs.Common.{take}
use Rattle.trace_merge.specs.Numbers.{AreFew}
use Rattle.trace_merge.proofs.stepping.tell_messages.Given as goal

-- the messages so far are told of
abbrev pub invariant-loop-delivery : goal.invariant-loop-delivery
invariant-loop-delivery g l = AreFew (take l.delivery-index l.given)
