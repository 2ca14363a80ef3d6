use Rattle.std.proofs.Common.{◌≡◌, ◌++◌, string_bytes, take}
use Rattle.trace_text.specs.Parts.{member_items}
use Rattle.trace_text.proofs.parts.push_member_items.Given as goal

abbrev pub invariant-loop-member : goal.invariant-loop-member
invariant-loop-member g l = string_bytes l.text ≡ string_bytes l.initial.text ++ member_items l.kind (take l.member-index l.members)
