use Rattle.std.proofs.Common.{◌≡◌, ◌++◌, take}
use Rattle.node_names.specs.declared.ids.MsgId.{MsgId}
use Rattle.trace_text.specs.Collected.{text_at}
use Rattle.trace_text.specs.Ends.{flying_lines}
use Rattle.trace_text.proofs.under_way.add_flying.Given as goal

abbrev pub invariant-loop-place : goal.invariant-loop-place
invariant-loop-place g l =
    (id : MsgId) → text_at id l.texts.entries ≡ text_at id l.initial.texts.entries ++ flying_lines id l.sent (take l.place-index l.flight)
