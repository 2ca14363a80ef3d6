-- One announcement more.
use Rattle.trace_text.proofs.Announced.{announced-more}
use Rattle.trace_text.proofs.under_way.add_announced.Goals as goal

pub loop-place-preserved : goal.loop-place-preserved
loop-place-preserved g c id =
    announced-more id c.args.entries.now c.loop-place.place c.index-entries-place.result _ _ _ c.args.line.now c.loop-place-test.true
    (c.loop-place.invariant id) (c.in_ok-add_first.ensures id)
