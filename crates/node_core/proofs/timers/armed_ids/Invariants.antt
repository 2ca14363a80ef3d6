use Rattle.std.proofs.Common.{◌≡◌, take}
use Rattle.node_names.specs.Slots.{somes}
use Rattle.node_core.proofs.timers.armed_ids.Given as goal

abbrev pub invariant-loop-timer : goal.invariant-loop-timer
invariant-loop-timer g l = l.ids.items ≡ somes (take l.timer-index l.timers)
