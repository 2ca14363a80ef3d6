-- One more entry goes into its receiver's batch.
use Rattle.std.proofs.Common.{sym, ap, ◌∙◌, get_or}
use Rattle.peer_sets.specs.Queue.{with_batch}
use Rattle.peer_sets.proofs.BatchLemmas.{batches-take}
use Rattle.peer_sets.proofs.queue.batches.Goals as goal

pub loop-entry-preserved : goal.loop-entry-preserved
loop-entry-preserved g c = record {
  put =
      c.in_ok-put_batch.ensures.put
      ∙ ap (λ entry. with_batch entry c.loop-entry.all.items) c.entry-item.is
      ∙ ap (with_batch (get_or c.args.queued.now c.loop-entry.entry-index c.entry-item.result)) c.loop-entry.invariant.put
      ∙ sym (batches-take c.args.queued.now c.loop-entry.entry-index c.entry-item.result c.loop-entry-test.true);
  matched = c.in_ok-put_batch.ensures.matched;
}
