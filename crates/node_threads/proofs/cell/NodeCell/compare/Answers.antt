use Rattle.std.proofs.Common.{rules}
use Rattle.node_threads.specs.Cell.{lost}
use Rattle.node_threads.proofs.GivingUp.{gives_up}
use Rattle.node_threads.proofs.cell.NodeCell.compare.Goals as goal

pub returns : goal.returns
returns g c = gives_up (lost c.args.self.now.since) c.args.self.now.trace c.args.outlet.now c.give_up.new.self _ _ c.came_out-place.ensures c.give_up.ensures
