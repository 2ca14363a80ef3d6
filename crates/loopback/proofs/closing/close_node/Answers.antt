use Rattle.node_threads.specs.History.{IsHistory}
use Rattle.loopback.proofs.Histories.{one_more}
use Rattle.loopback.proofs.closing.close_node.Goals as goal

pub returns-in-Ok-clause-histories : goal.returns-in-Ok-clause-histories
returns-in-Ok-clause-histories g c all =
    one_more (IsHistory g.C.NodeCore.starts g.C.NodeCore.steps) c.args.ran.now.traces.items
    c.leave.new.ran.traces.items c.in_ok-trace.trace c.in-Ok.ensures c.in_ok-trace.ensures all
