use Rattle.std.proofs.Common.{◌≡◌, take}
use Rattle.wire_node.specs.Waiting.{KeepsSettled, all_drafted}
use Rattle.wire_node.proofs.drafts.draft_all.Given as goal

-- the packets so far are drafted
abbrev pub invariant-loop-send : goal.invariant-loop-send
invariant-loop-send g l = (l.entries.items ≡ all_drafted l.fn.entries.items (take l.send-index l.sends)) × KeepsSettled l.fn.entries.items l.entries.items
