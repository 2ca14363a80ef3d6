-- A step appends the lines of one node.
use Rattle.std.proofs.Common.{refl, ◌∙◌, ◌++◌, List, ap, string_bytes}
use Rattle.std.proofs.lemmas.List.{take_all}
use Rattle.node_core.specs.Plum.{Plum}
use Rattle.world.specs.declared.node_state.NodeState.{NodeState}
use Rattle.simulation.specs.Graph.{overlay_lines, state_lines}
use Rattle.trace_text.proofs.Texts.{joined, lines-more}
use Rattle.simulation.proofs.graph.overlay.push_nodes.Goals as goal

pub loop-node-preserved : goal.loop-node-preserved
loop-node-preserved g c =
    joined _ _ _ _ _ _ c.in_ok-push_node.ensures c.loop-node.invariant (lines-more state_lines overlay_lines refl
    (λ x xs. refl) c.args.nodes.now c.loop-node.node-index c.node-item.result c.node-item.result c.loop-node-test.true c.node-item.is)

pub returns : goal.returns
returns g c =
    c.loop-node.invariant
    ∙ ap (λ (some : List (NodeState Plum)). string_bytes c.args.text.now ++ overlay_lines some)
    (take_all c.loop-node.node-index c.args.nodes.now c.loop-node-test.false)
