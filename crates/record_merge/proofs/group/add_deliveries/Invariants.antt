use Rattle.std.proofs.Common.{◌≡◌, ◌++◌, take}
use Rattle.protocol.specs.Trace.{delivered}
use Rattle.record_merge.proofs.group.add_deliveries.Given as goal

-- what the steps so far deliver is appended
abbrev pub invariant-loop-place : goal.invariant-loop-place
invariant-loop-place l = l.deliveries.items ≡ l.fn.deliveries.items ++ delivered (take l.place l.trace.steps)
