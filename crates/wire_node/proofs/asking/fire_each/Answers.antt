use Rattle.wire_node.proofs.GoingDown.{fires_more}
use Rattle.wire_node.proofs.asking.fire_each.Goals as goal

pub loop-id-preserved : goal.loop-id-preserved
loop-id-preserved g c =
    fires_more c.args.engine.now c.args.dice.now c.args.ids.now c.loop-id.id-index c.id-item.result c.loop-id.engine c.step.new.self
    c.loop-id-test.true c.id-item.is c.loop-id.invariant c.in_ok-step.ensures.ok
