use Rattle.std.proofs.Common.{drop}
use Rattle.node_threads.proofs.DownSteps.{DownsOn}
use Rattle.node_threads.proofs.cell.downs.take_downs.Given as goal

-- the Downs that are left are the last of all
abbrev pub invariant-loop-peer : goal.invariant-loop-peer
invariant-loop-peer g l =
    DownsOn g.C.NodeCore.state g.C.NodeCore.steps g.C.NodeCore.is_spent l.fn.cell l.fn.learnt l.fn.peers l.cell l.learnt (drop l.peer-index l.peers)
