use Rattle.std.proofs.Common.{◌≤◌, All, length, take}
use Rattle.wire_node.proofs.downs.overfull.Given as goal

-- for none so far waits too much
abbrev pub invariant-loop-entry : goal.invariant-loop-entry
invariant-loop-entry g l = All (λ waiting. length waiting.settled ≤ l.limit) (take l.entry-index l.entries)
