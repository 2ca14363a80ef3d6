-- One delivery more.
use Rattle.at_rest.proofs.Leading.{branches-more}
use Rattle.at_rest.proofs.forest.push_all.Goals as goal

pub loop-delivery-preserved : goal.loop-delivery-preserved
loop-delivery-preserved g c id =
    branches-more id c.args.parent.now c.args.given.now c.loop-delivery.delivery-index c.delivery-item.result _ _ _ c.loop-delivery-test.true c.delivery-item.is
    (c.loop-delivery.invariant id) (c.in_ok-push.ensures id)
