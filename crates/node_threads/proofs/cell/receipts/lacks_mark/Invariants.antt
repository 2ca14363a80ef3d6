use Rattle.std.proofs.Common.{ℕ, ◌<◌, ◌≤◌}
use Rattle.node_threads.specs.Marks.{marks_at}
use Rattle.node_threads.specs.Receipts.{broadcasts_at}
use Rattle.node_threads.proofs.cell.receipts.lacks_mark.Given as goal

-- each broadcast so far has a mark
abbrev pub invariant-loop-place : goal.invariant-loop-place
invariant-loop-place g l = (k : ℕ) → k < l.place → broadcasts_at k l.trace.steps ≤ marks_at k l.marks
