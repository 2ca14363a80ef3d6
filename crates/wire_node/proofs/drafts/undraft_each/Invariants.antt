use Rattle.std.proofs.Common.{◌≡◌, ◌++◌, drop, length, map, take}
use Rattle.wire_node.specs.Waiting.{undrafted}
use Rattle.wire_node.proofs.drafts.undraft_each.Given as goal

-- so far
abbrev pub invariant-loop-place : goal.invariant-loop-place
invariant-loop-place g l =
    (length l.entries.items ≡ length l.fn.entries.items)
    × (l.entries.items ≡ map undrafted (take l.place l.fn.entries.items) ++ drop l.place l.fn.entries.items)
