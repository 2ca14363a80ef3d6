use Rattle.std.proofs.Common.{drop}
use Rattle.node_threads.proofs.DownSteps.{DrawnOn}
use Rattle.node_threads.proofs.cell.downs.take_drawn_downs.Given as goal

-- the Downs that are left are the last of all
abbrev pub invariant-loop-peer : goal.invariant-loop-peer
invariant-loop-peer g l =
    DrawnOn g.C.NodeCore.state g.C.NodeCore.steps g.C.NodeCore.is_spent (g.R.Rng.stream l.fn.generator) l.fn.cell l.fn.learnt l.fn.peers
    (g.R.Rng.stream l.generator) l.cell l.learnt (drop l.peer-index l.peers)
