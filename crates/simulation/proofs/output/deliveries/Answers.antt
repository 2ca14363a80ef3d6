-- The deliveries of one entry more.
use Rattle.std.proofs.Common.{◌∙◌, ◌++◌, List, ap, map, sym}
use Rattle.protocol.specs.Delivery.{Delivery}
use Rattle.world.specs.Entry.{Entry}
use Rattle.simulation.proofs.Borrowed.{deliveries-more}
use Rattle.simulation.proofs.output.deliveries.Goals as goal

pub loop-entry-preserved : goal.loop-entry-preserved
loop-entry-preserved g c =
    c.in_ok-push_each.ensures
    ∙ ap (λ (ds : List Delivery). map (λ d. d.now) c.loop-entry.found.items ++ ds) (c.as_slice.ensures ∙ ap (λ (e : Entry). e.given) c.entry.view_is)
    ∙ ap (λ (ds : List Delivery). ds ++ c.entry-item.result.given) c.loop-entry.invariant
    ∙ sym (deliveries-more c.args.log.now c.loop-entry.entry-index c.entry-item.result c.loop-entry-test.true c.entry-item.is)
