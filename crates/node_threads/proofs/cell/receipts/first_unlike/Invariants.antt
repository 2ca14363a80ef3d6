use Rattle.std.proofs.Common.{◌≡◌, length, take}
use Rattle.node_threads.proofs.Receipting.{PortsMarked}
use Rattle.node_threads.proofs.cell.receipts.first_unlike.Given as goal

-- the ports so far fit, and the places of their receipts are marked
abbrev pub invariant-loop-n : goal.invariant-loop-n
invariant-loop-n g l = (length l.marks.items ≡ length l.trace.steps) × PortsMarked l.trace.steps (take l.n l.ports) l.marks.items
