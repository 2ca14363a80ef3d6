use Rattle.std.proofs.Common.{◌≡◌, ◌++◌, string_bytes, take}
use Rattle.trace_text.specs.Names.{name_items}
use Rattle.trace_text.proofs.names.push_name_items.Given as goal

abbrev pub invariant-loop-name : goal.invariant-loop-name
invariant-loop-name g l = string_bytes l.text ≡ string_bytes l.initial.text ++ name_items (take l.name-index l.names)
