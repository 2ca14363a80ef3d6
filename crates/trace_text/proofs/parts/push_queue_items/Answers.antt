-- A step appends one announcement.
use Rattle.std.proofs.Common.{refl}
use Rattle.trace_text.specs.Parts.{queue_item, queue_items}
use Rattle.trace_text.proofs.Texts.{joined, lines-more}
use Rattle.trace_text.proofs.parts.push_queue_items.Goals as goal

pub loop-entry-preserved : goal.loop-entry-preserved
loop-entry-preserved g c =
    joined _ _ _ _ _ _ c.in_ok-push_queue_item.ensures c.loop-entry.invariant (lines-more queue_item queue_items refl
    (λ x xs. refl) c.args.queued.now c.loop-entry.entry-index c.entry-item.result c.entry-item.result c.loop-entry-test.true c.entry-item.is)
