-- A step lists one packet.
use Rattle.std.proofs.Common.{refl}
use Rattle.trace_text.proofs.Texts.{joined, lines-more}
use Rattle.simulation.specs.Flights.{about, about_at}
use Rattle.simulation.proofs.graph.flights.add_all.Goals as goal

pub loop-number-preserved : goal.loop-number-preserved
loop-number-preserved g c id =
    joined _ _ _ _ _ _ (c.in_ok-add_at.ensures id) (c.loop-number.invariant id) (lines-more (about_at id c.args.sent.now)
    (about id c.args.sent.now) refl (λ x xs. refl) c.args.numbers.now c.loop-number.number-index _ 0 c.loop-number-test.true refl)
