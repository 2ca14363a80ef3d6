use Rattle.std.proofs.Common.{◌∙◌, ap, sym}
use Rattle.node_threads.specs.Cell.{peers_of}
use Rattle.node_threads.specs.Opened.{others}
use Rattle.node_threads.proofs.Lettering.{other_names}
use Rattle.node_threads.proofs.Links.{closed_kept}
use Rattle.node_threads.proofs.cell.NodeCell.close_link.Goals as goal

pub invariant_of-self : goal.invariant_of-self
invariant_of-self g c = (
  rw c.close.ensures.links (closed_kept g.C.NodeCore.starts g.C.NodeCore.steps _ c.args.name.now c.self.invariant.0),
  c.close.ensures.names
      ∙ ap (others c.args.name.now) c.self.invariant.1
      ∙ other_names c.args.name.now c.self.inside.links.items
      ∙ ap peers_of (sym c.close.ensures.links),
  c.self.invariant.2,
  c.self.invariant.3,
)
