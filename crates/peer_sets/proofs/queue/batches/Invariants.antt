use Rattle.std.proofs.Common.{◌≡◌, map, take}
use Rattle.peer_sets.specs.Queue.{batches}
use Rattle.peer_sets.proofs.queue.batches.Given as goal

abbrev pub invariant-loop-entry : goal.invariant-loop-entry
invariant-loop-entry g l =
    record {
      put : l.all.items ≡ batches (take l.entry-index l.queued);
      matched : map (λ batch. batch.0) l.all.items ≡ l.receivers.keys;
    }
