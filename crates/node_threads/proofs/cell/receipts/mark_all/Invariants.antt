use Rattle.std.proofs.Common.{drop}
use Rattle.node_threads.proofs.Receipting.{MarksOn}
use Rattle.node_threads.proofs.cell.receipts.mark_all.Given as goal

-- the receipts so far are marked, and the rest goes on
abbrev pub invariant-loop-call : goal.invariant-loop-call
invariant-loop-call g l = MarksOn l.trace.steps l.fn.marks l.fn.calls l.marks l.low (drop l.call-index l.calls)
