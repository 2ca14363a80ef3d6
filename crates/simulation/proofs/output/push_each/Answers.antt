-- One delivery more.
use Rattle.std.proofs.Common.{Bor}
use Rattle.protocol.specs.Delivery.{Delivery}
use Rattle.simulation.proofs.Borrowed.{mapped-more}
use Rattle.simulation.proofs.output.push_each.Goals as goal

pub loop-delivery-preserved : goal.loop-delivery-preserved
loop-delivery-preserved g c =
    mapped-more (λ (d : Bor Delivery). d.now) _ c.loop-delivery.found.items c.push.new.self.items c.args.given.now
    c.loop-delivery.delivery-index _ c.loop-delivery-test.true c.in_ok-push.ensures.items c.delivery-item.is c.loop-delivery.invariant
