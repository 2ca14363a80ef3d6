-- A step appends the line of one node, if it lacks the message.
use Rattle.std.proofs.Common.{refl, ◌∙◌, ◌++◌, List, ap, string_bytes}
use Rattle.std.proofs.lemmas.List.{take_all}
use Rattle.node_core.specs.Plum.{Plum}
use Rattle.world.specs.declared.node_state.NodeState.{NodeState}
use Rattle.simulation.specs.Graph.{lacking_lines, state_lacking}
use Rattle.trace_text.proofs.Texts.{joined, lines-more}
use Rattle.simulation.proofs.graph.parts.push_each_lacking.Goals as goal

pub loop-node-preserved : goal.loop-node-preserved
loop-node-preserved g c =
    joined _ _ _ _ _ _ c.in_ok-push_if_lacking.ensures c.loop-node.invariant (lines-more (state_lacking c.args.id.now c.args.branches.now)
    (lacking_lines c.args.id.now c.args.branches.now)
    refl
    (λ x xs. refl)
    c.args.nodes.now c.loop-node.node-index c.node-item.result c.node-item.result c.loop-node-test.true c.node-item.is)

pub returns : goal.returns
returns g c =
    c.loop-node.invariant
    ∙ ap (λ (some : List (NodeState Plum)). string_bytes c.args.text.now ++ lacking_lines c.args.id.now c.args.branches.now some)
    (take_all c.loop-node.node-index c.args.nodes.now c.loop-node-test.false)
