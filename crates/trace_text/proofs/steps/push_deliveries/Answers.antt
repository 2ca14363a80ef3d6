-- A step appends one delivery.
use Rattle.std.proofs.Common.{refl}
use Rattle.trace_text.specs.Step.{delivery_line, delivery_lines}
use Rattle.trace_text.proofs.Texts.{joined, lines-more}
use Rattle.trace_text.proofs.steps.push_deliveries.Goals as goal

pub loop-delivery-preserved : goal.loop-delivery-preserved
loop-delivery-preserved g c =
    joined _ _ _ _ _ _ c.in_ok-push_delivery.ensures c.loop-delivery.invariant (lines-more delivery_line delivery_lines refl
    (λ x xs. refl) c.args.given.now c.loop-delivery.delivery-index c.delivery-item.result c.delivery-item.result c.loop-delivery-test.true c.delivery-item.is)
