use Rattle.std.proofs.Common.{take}
use Rattle.node_names.specs.Slots.{somes}
use Rattle.at_rest.specs.Unrest.{Adds}
use Rattle.at_rest.proofs.unrest.add_timers.Given as goal

abbrev pub invariant-loop-timer : goal.invariant-loop-timer
invariant-loop-timer g l = Adds l.initial.ids.keys (somes (take l.timer-index l.timers)) l.ids.keys
