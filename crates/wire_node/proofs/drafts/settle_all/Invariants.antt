use Rattle.std.proofs.Common.{◌≡◌, ◌++◌, drop, length, map, take}
use Rattle.wire_node.specs.Waiting.{settled}
use Rattle.wire_node.proofs.drafts.settle_all.Given as goal

-- so far
abbrev pub invariant-loop-place : goal.invariant-loop-place
invariant-loop-place g l =
    (length l.entries.items ≡ length l.fn.entries.items) × (l.entries.items ≡ map settled (take l.place l.fn.entries.items) ++ drop l.place l.fn.entries.items)
