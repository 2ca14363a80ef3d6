use Rattle.std.proofs.Common.{◌≡◌, ◌≤◌, arith, length, subst}
use Rattle.protocol.specs.Trace.{delivered}
use Rattle.node_threads.specs.Cell.{IsKept}
use Rattle.node_threads.proofs.Histories.{handed_within}
use Rattle.node_threads.proofs.cell.NodeCell.count_handed.Goals as goal

pub returns-clause-within : goal.returns-clause-within
returns-clause-within g c = λ none.
    let kept : IsKept g.C.NodeCore.starts g.C.NodeCore.steps c.args.self.now =
    subst (IsKept g.C.NodeCore.starts g.C.NodeCore.steps) c.self.view_is c.self.invariant.0 in
    let few : c.args.self.now.handed_out ≤ length (delivered c.args.self.now.trace.steps) =
    handed_within g.C.NodeCore.starts g.C.NodeCore.steps c.args.self.now kept none in
    omega (arith, few, c.handed_out.ensures)
