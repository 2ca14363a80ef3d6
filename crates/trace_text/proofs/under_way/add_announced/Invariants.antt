use Rattle.std.proofs.Common.{◌≡◌, ◌++◌, [], take, if◌then◌else◌}
use Rattle.node_names.specs.declared.ids.MsgId.{MsgId}
use Rattle.at_rest.specs.Silence.{is_announced}
use Rattle.trace_text.specs.Collected.{text_at}
use Rattle.trace_text.proofs.under_way.add_announced.Given as goal

-- each message that was announced so far has the line once
abbrev pub invariant-loop-place : goal.invariant-loop-place
invariant-loop-place g l =
    (id : MsgId) → text_at id l.texts.entries ≡ text_at id l.initial.texts.entries ++ (if is_announced id (take l.place l.entries) then l.line else [])
