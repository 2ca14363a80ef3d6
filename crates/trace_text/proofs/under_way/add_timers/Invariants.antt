use Rattle.std.proofs.Common.{◌≡◌, ◌++◌, take}
use Rattle.node_names.specs.declared.ids.MsgId.{MsgId}
use Rattle.trace_text.specs.Collected.{text_at}
use Rattle.trace_text.specs.Ends.{timer_lines}
use Rattle.trace_text.proofs.under_way.add_timers.Given as goal

abbrev pub invariant-loop-node : goal.invariant-loop-node
invariant-loop-node g l = (id : MsgId) → text_at id l.texts.entries ≡ text_at id l.initial.texts.entries ++ timer_lines id (take l.node-index l.nodes)
