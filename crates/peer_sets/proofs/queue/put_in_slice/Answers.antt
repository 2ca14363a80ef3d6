use Rattle.peer_sets.proofs.BatchLemmas.{with_more-set}
use Rattle.peer_sets.proofs.queue.put_in_slice.Goals as goal

pub returns : goal.returns
returns g c = with_more-set c.args.batches.now c.args.place c.args.entry c.index-batches-place.result c.push.new.self c.requires c.in_ok-push.ensures.ok
