use Rattle.std.proofs.Common.{take}
use Rattle.at_rest.specs.Unrest.{Adds, nodes_ids}
use Rattle.at_rest.proofs.unrest.add_nodes.Given as goal

abbrev pub invariant-loop-node : goal.invariant-loop-node
invariant-loop-node g l = Adds l.initial.ids.keys (nodes_ids g.C.Core.state l.world.group.nodes (take l.node-index l.world.group.nodes)) l.ids.keys
