-- One node more.
use Rattle.std.proofs.Common.{refl}
use Rattle.world.specs.declared.node_state.NodeState.{NodeState}
use Rattle.at_rest.specs.Unrest.{node_ids, nodes_ids}
use Rattle.at_rest.proofs.Adding.{adds-more, adds-none}
use Rattle.at_rest.proofs.unrest.add_nodes.Goals as goal

pub loop-node-init : goal.loop-node-init
loop-node-init g c = adds-none c.args.ids.now.keys

pub loop-node-preserved : goal.loop-node-preserved
loop-node-preserved g c =
    adds-more (λ (node : NodeState g.row.C.Denot). node_ids g.C.Core.state c.args.world.now.group.nodes node.name)
    (nodes_ids g.C.Core.state c.args.world.now.group.nodes)
    refl
    (λ node nodes. refl)
    c.args.world.now.group.nodes c.loop-node.node-index c.node-item.result c.node-item.result c.args.ids.now.keys c.loop-node.ids.keys c.add_node.new.ids.keys
    (rw c.nodes-node-items.ensures at c.loop-node-test.true)
    (rw c.nodes-node-items.ensures at c.node-item.is)
    c.loop-node.invariant c.in_ok-add_node.ensures
