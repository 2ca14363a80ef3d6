use Rattle.std.proofs.Common.{◌≡◌, ◌++◌, string_bytes, take}
use Rattle.trace_text.specs.Ends.{messages_text}
use Rattle.trace_text.proofs.messages.push_messages.Given as goal

abbrev pub invariant-loop-id : goal.invariant-loop-id
invariant-loop-id g l = string_bytes l.text ≡ string_bytes l.initial.text ++ messages_text l.world l.unrest l.forest (take l.id-index l.ids)
