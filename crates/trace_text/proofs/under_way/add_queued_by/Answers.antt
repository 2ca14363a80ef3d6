-- A step adds one announcement.
use Rattle.std.proofs.Common.{refl}
use Rattle.trace_text.specs.Ends.{queued_by, queued_line}
use Rattle.trace_text.proofs.Texts.{joined, lines-more}
use Rattle.trace_text.proofs.under_way.add_queued_by.Goals as goal

pub loop-entry-preserved : goal.loop-entry-preserved
loop-entry-preserved g c id =
    joined _ _ _ _ _ _ (c.in_ok-add_queued_entry.ensures id) (c.loop-entry.invariant id) (lines-more (queued_line id c.args.node.now)
    (queued_by id c.args.node.now)
    refl
    (λ x xs. refl)
    c.args.queued.now c.loop-entry.entry-index c.entry-item.result c.entry-item.result c.loop-entry-test.true c.entry-item.is)
