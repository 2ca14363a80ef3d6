use Rattle.std.proofs.Common.{◌≡◌, ◌++◌, take}
use Rattle.node_names.specs.declared.ids.MsgId.{MsgId}
use Rattle.trace_text.specs.Collected.{text_at}
use Rattle.trace_text.specs.Ends.{queued_by}
use Rattle.trace_text.proofs.under_way.add_queued_by.Given as goal

abbrev pub invariant-loop-entry : goal.invariant-loop-entry
invariant-loop-entry g l = (id : MsgId) → text_at id l.texts.entries ≡ text_at id l.initial.texts.entries ++ queued_by id l.node (take l.entry-index l.queued)
