use Rattle.std.proofs.Common.{◌≡◌, ◌≤◌, drop, length, take}
use Rattle.node_threads.specs.Cell.{IsPlace}
use Rattle.node_threads.proofs.LinkOpenings.{OpensOn}
use Rattle.node_threads.proofs.cell.learning.open_unlinked.Given as goal

-- the names from here on are still to be opened, and those that were left so far stand first
abbrev pub invariant-loop-at : goal.invariant-loop-at
invariant-loop-at g l =
    (l.left ≤ l.at) ×
    (length l.unlinked.items ≡ length l.fn.unlinked.items) ×
    (drop l.at l.unlinked.items ≡ drop l.at l.fn.unlinked.items) ×
    IsPlace l.cell l.place ×
    OpensOn l.place l.fn.cell l.fn.learnt l.fn.unlinked.items l.cell l.learnt (drop l.at l.fn.unlinked.items) (take l.left l.unlinked.items)
