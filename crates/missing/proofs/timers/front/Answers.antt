use Rattle.std.proofs.Common.{Some, sym, ap, ◌∙◌}
use Rattle.std.proofs.lemmas.Option.{slice_get-get_or}
use Rattle.missing.proofs.SlotLemmas.{lacks, gone-next}
use Rattle.missing.proofs.timers.front.Goals as goal

pub loop-at-preserved : goal.loop-at-preserved
loop-at-preserved c =
    gone-next c.loop-at.at c.args.slots.now c.loop-at.invariant
    (slice_get-get_or c.args.slots.now c.loop-at.at c.index-slots-at.result c.loop-at-test.true
    ∙ ap Some (sym c.index-slots-at.is ∙ lacks c.index-slots-at.result c.if-is_none.ensures))
