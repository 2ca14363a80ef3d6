-- A step adds one packet.
use Rattle.std.proofs.Common.{refl}
use Rattle.trace_text.specs.Ends.{flying_at, flying_lines}
use Rattle.trace_text.proofs.Texts.{joined, lines-more}
use Rattle.trace_text.proofs.under_way.add_flying.Goals as goal

pub loop-place-preserved : goal.loop-place-preserved
loop-place-preserved g c id =
    joined _ _ _ _ _ _ (c.in_ok-add_flying_at.ensures id) (c.loop-place.invariant id) (lines-more (flying_at id c.args.sent.now)
    (flying_lines id c.args.sent.now) refl (λ x xs. refl) c.args.flight.now c.loop-place.place-index _ 0 c.loop-place-test.true refl)
