-- One announcement more.
use Rattle.std.proofs.Common.{[], ◌∷◌}
use Rattle.trace_text.proofs.Announced.{announced-more}
use Rattle.simulation.proofs.graph.flights.add_announced.Goals as goal

pub loop-place-preserved : goal.loop-place-preserved
loop-place-preserved g c id =
    announced-more id c.args.entries.now c.loop-place.place c.index-entries-place.result _ _ _
    (c.args.number ∷ []) c.loop-place-test.true (c.loop-place.invariant id) (c.in_ok-add_first.ensures id)
