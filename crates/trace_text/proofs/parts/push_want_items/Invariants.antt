use Rattle.std.proofs.Common.{◌≡◌, ◌++◌, string_bytes, take}
use Rattle.node_names.specs.Slots.{somes}
use Rattle.trace_text.specs.Parts.{want_items}
use Rattle.trace_text.proofs.parts.push_want_items.Given as goal

abbrev pub invariant-loop-want : goal.invariant-loop-want
invariant-loop-want g l = string_bytes l.text ≡ string_bytes l.initial.text ++ want_items (somes (take l.want-index l.wants))
