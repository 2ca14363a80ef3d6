use Rattle.std.proofs.Common.{ap, subst, sym}
use Rattle.node_threads.specs.Cell.{Cell, IsKept}
use Rattle.node_threads.specs.Closing.{IsLeft}
use Rattle.node_threads.proofs.Histories.{is_left}
use Rattle.node_threads.proofs.cell.NodeCell.into_trace.Goals as goal

pub returns-clause-history : goal.returns-clause-history
returns-clause-history g c =
    let kept : IsKept g.C.NodeCore.starts g.C.NodeCore.steps c.args.self =
    subst (IsKept g.C.NodeCore.starts g.C.NodeCore.steps) c.self.view_is c.self.invariant.0 in
    subst (IsLeft g.C.NodeCore.starts g.C.NodeCore.steps c.args.self.since)
    (sym (ap (λ (cell : Cell g.row.C.Denot). cell.trace) c.self.view_is)) (is_left g.C.NodeCore.starts g.C.NodeCore.steps c.args.self kept)
