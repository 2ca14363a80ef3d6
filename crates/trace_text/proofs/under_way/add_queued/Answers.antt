-- A step adds one node, and at the end there are all.
use Rattle.std.proofs.Common.{refl}
use Rattle.world.specs.Group.{origin_of}
use Rattle.trace_text.specs.Ends.{queued_at, queued_lines}
use Rattle.trace_text.proofs.Texts.{joined, lines-all, lines-more}
use Rattle.trace_text.proofs.under_way.add_queued.Goals as goal

pub loop-node-preserved : goal.loop-node-preserved
loop-node-preserved g c id =
    joined _ _ _ _ _ _ (c.in_ok-add_queued_at.ensures id) (c.loop-node.invariant id) (lines-more (λ node. queued_at id (origin_of node) node.core)
    (queued_lines id) refl (λ x xs. refl) c.args.nodes.now c.loop-node.node-index c.node-item.result c.node-item.result c.loop-node-test.true c.node-item.is)

pub returns : goal.returns
returns g c id = lines-all (queued_lines id) c.args.nodes.now c.loop-node.node-index _ _ c.loop-node-test.false (c.loop-node.invariant id)
