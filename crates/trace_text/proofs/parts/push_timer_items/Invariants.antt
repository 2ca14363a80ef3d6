use Rattle.std.proofs.Common.{◌≡◌, ◌++◌, string_bytes, take}
use Rattle.node_names.specs.Slots.{somes}
use Rattle.trace_text.specs.Names.{id_items}
use Rattle.trace_text.proofs.parts.push_timer_items.Given as goal

abbrev pub invariant-loop-timer : goal.invariant-loop-timer
invariant-loop-timer g l = string_bytes l.text ≡ string_bytes l.initial.text ++ id_items (somes (take l.timer-index l.timers))
