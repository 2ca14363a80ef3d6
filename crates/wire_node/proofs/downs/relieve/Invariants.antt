use Rattle.std.proofs.Common.{◌≡◌, ◌≤◌, ◌-◌, length}
use Rattle.wire_node.specs.Acting.{AreSettled, machine}
use Rattle.wire_node.proofs.GoingDown.{Relieving}
use Rattle.wire_node.proofs.downs.relieve.Given as goal

-- some names went down so far
abbrev pub invariant-loop-count : goal.invariant-loop-count
invariant-loop-count g l =
    let noted = g.R.Record.noted in
    (l.most ≡ length l.fn.entries.items)
    × (l.count ≤ l.most)
    × AreSettled l.entries.items
    × Relieving l.limit (machine l.fn.core l.fn.entries.items l.fn.pending (noted l.fn.notes) l.fn.telling) l.fn.lost l.dice
    (machine l.core l.entries.items l.pending (noted l.notes) l.telling) l.lost l.count

abbrev pub decreases-loop-count : goal.decreases-loop-count
decreases-loop-count g l = l.most - l.count
