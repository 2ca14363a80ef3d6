use Rattle.std.proofs.Common.{◌≡◌, ◌++◌, string_bytes, take}
use Rattle.trace_text.specs.Packets.{announcement_items}
use Rattle.trace_text.proofs.packets.push_announcement_items.Given as goal

abbrev pub invariant-loop-entry : goal.invariant-loop-entry
invariant-loop-entry g l = string_bytes l.text ≡ string_bytes l.initial.text ++ announcement_items (take l.entry-index l.entries)
