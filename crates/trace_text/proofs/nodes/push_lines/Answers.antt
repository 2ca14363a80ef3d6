-- A step appends one node, and at the end there are all.
use Rattle.std.proofs.Common.{refl}
use Rattle.trace_text.specs.Ends.{node_line, node_lines}
use Rattle.trace_text.proofs.Texts.{joined, lines-all, lines-more}
use Rattle.trace_text.proofs.nodes.push_lines.Goals as goal

pub loop-node-preserved : goal.loop-node-preserved
loop-node-preserved g c =
    joined _ _ _ _ _ _ c.in_ok-push_line.ensures c.loop-node.invariant (lines-more node_line node_lines refl
    (λ x xs. refl) c.args.nodes.now c.loop-node.node-index c.node-item.result c.node-item.result c.loop-node-test.true c.node-item.is)

pub returns : goal.returns
returns g c = lines-all node_lines c.args.nodes.now c.loop-node.node-index _ _ c.loop-node-test.false c.loop-node.invariant
