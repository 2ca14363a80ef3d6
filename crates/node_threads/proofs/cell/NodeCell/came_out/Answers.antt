use Rattle.std.proofs.Common.{rules}
use Rattle.node_threads.proofs.GivingUp.{none_came}
use Rattle.node_threads.proofs.cell.NodeCell.came_out.Goals as goal

pub returns-then-opened-lost : goal.returns-then-opened-lost
returns-then-opened-lost g c =
    rw c.opened-opened.ensures (none_came _ c.args.self.now.trace c.args.outlet.now.peer c.args.outlet.now.opened c.args.outlet.now.given)
