-- A step appends one place, and at the end no place is left.
use Rattle.std.proofs.Common.{refl}
use Rattle.trace_text.specs.Step.{flight_item, flight_items}
use Rattle.trace_text.proofs.Texts.{numbered-end, numbered-step}
use Rattle.trace_text.proofs.steps.push_flight_items.Goals as goal

pub loop-place-preserved : goal.loop-place-preserved
loop-place-preserved g c =
    numbered-step flight_item flight_items (λ i. refl)
    (λ i x xs. refl) c.args.flight.now c.loop-place.place _ 0 _ _ _ c.loop-place-test.true refl c.in_ok-push_flight_item.ensures c.loop-place.invariant

pub returns : goal.returns
returns g c =
    numbered-end flight_item flight_items (λ i. refl) (λ i x xs. refl) c.args.flight.now c.loop-place.place _ _ c.loop-place-test.false c.loop-place.invariant
