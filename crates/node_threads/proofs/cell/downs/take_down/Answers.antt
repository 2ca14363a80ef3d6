use Rattle.node_threads.proofs.DownSteps.{down_taken}
use Rattle.node_threads.proofs.cell.downs.take_down.Goals as goal

pub returns : goal.returns
returns g c =
    down_taken g.C.NodeCore.state g.C.NodeCore.steps g.C.NodeCore.is_spent c.args.dice _ _ _ _ _
    _ c.apply_opening.ensures.applied c.apply_opening.ensures.refused c.apply_opening.ensures.err
