-- The entry goes where its receiver's batch stands.
use Rattle.std.proofs.Common.{◌≡◌, ◌<◌, ◌∙◌, length, ap, sym, subst}
use Rattle.std.specs.List.{position_or_len}
use Rattle.indexmap.specs.IndexSet.{insert_key}
use Rattle.node_names.specs.Same.{same_name}
use Rattle.peer_sets.specs.Queue.{with_more, with_batch}
use Rattle.peer_sets.proofs.BatchLemmas.{peers_of, peers_of-with_batch, with_more-empty, within_empty}
use Rattle.peer_sets.proofs.queue.put_batch.Goals as goal

pub put_in-requires : goal.put_in-requires
put_in-requires g c =
    subst (λ place. place < length c.batch_of.new.batches.items)
    (sym (c.in_ok-place.ensures.place ∙ ap (position_or_len (same_name c.args.entry.now.0)) (sym c.requires)))
    (subst (λ batches. position_or_len (same_name c.args.entry.now.0) (peers_of c.args.batches.now.items) < length batches)
    (sym c.in_ok-place.ensures.batches) (within_empty c.args.entry.now.0 c.args.batches.now.items))

put : (g : _) (c : goal.In_ok-put_in g) → c.put_in.new.batches.items ≡ with_batch c.args.entry.now c.args.batches.now.items
put g c =
    c.in_ok-put_in.ensures
    ∙ ap (λ place. with_more place (c.args.entry.now.1, c.args.entry.now.2) c.batch_of.new.batches.items)
    (c.in_ok-place.ensures.place ∙ ap (position_or_len (same_name c.args.entry.now.0)) (sym c.requires))
    ∙ ap (with_more (position_or_len (same_name c.args.entry.now.0) (peers_of c.args.batches.now.items)) (c.args.entry.now.1, c.args.entry.now.2))
    c.in_ok-place.ensures.batches
    ∙ with_more-empty c.args.entry.now c.args.batches.now.items

pub returns-clause-put : goal.returns-clause-put
returns-clause-put g c = put g c

pub returns-clause-matched : goal.returns-clause-matched
returns-clause-matched g c =
    ap peers_of (put g c)
    ∙ peers_of-with_batch c.args.entry.now c.args.batches.now.items
    ∙ ap (λ names. insert_key same_name names c.args.entry.now.0) c.requires
    ∙ sym c.in_ok-place.ensures.receivers
