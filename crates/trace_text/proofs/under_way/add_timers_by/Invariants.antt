use Rattle.std.proofs.Common.{◌≡◌, ◌++◌, take}
use Rattle.node_names.specs.Slots.{somes}
use Rattle.node_names.specs.declared.ids.MsgId.{MsgId}
use Rattle.trace_text.specs.Collected.{text_at}
use Rattle.trace_text.specs.Ends.{timers_by}
use Rattle.trace_text.proofs.under_way.add_timers_by.Given as goal

abbrev pub invariant-loop-timer : goal.invariant-loop-timer
invariant-loop-timer g l =
    (id : MsgId) → text_at id l.texts.entries ≡ text_at id l.initial.texts.entries ++ timers_by id l.node (somes (take l.timer-index l.timers))
