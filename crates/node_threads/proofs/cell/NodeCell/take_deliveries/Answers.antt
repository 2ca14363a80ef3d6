use Rattle.std.proofs.Common.{arith, ap, ◌∙◌, length}
use Rattle.node_threads.proofs.Links.{counts_few, taken_kept}
use Rattle.node_threads.proofs.cell.NodeCell.take_deliveries.Goals as goal

pub overflow_add-self : goal.overflow_add-self
overflow_add-self g c =
    let few = counts_few g.C.NodeCore.state g.C.NodeCore.starts g.C.NodeCore.steps _ c.self.invariant.0 g.met.C.NodeCore.delivers_one in
    let given = c.len.ensures ∙ ap length c.replace-given.ensures.value in
    let made = c.steps_made-bound.ensures in
    let fits = c.steps_made-bound.type_inv in
    omega arith

pub invariant_of-self : goal.invariant_of-self
invariant_of-self g c = (
  rw (c.replace-given.ensures.after, c.new.ensures, c.len.ensures, c.replace-given.ensures.value)
      (taken_kept g.C.NodeCore.state g.C.NodeCore.starts g.C.NodeCore.steps _ c.self.invariant.0),
  c.self.invariant.1,
  c.self.invariant.2,
  c.self.invariant.3,
)
