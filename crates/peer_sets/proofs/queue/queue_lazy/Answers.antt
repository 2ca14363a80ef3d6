-- None of the peers has an entry of the id.
use Rattle.std.proofs.Common.{◌∙◌, ◌++◌, map, ap, sym}
use Rattle.peer_sets.specs.Members.{lazy_but}
use Rattle.peer_sets.proofs.QueueLemmas.{with_entries-new}
use Rattle.peer_sets.proofs.queue.queue_lazy.Goals as goal

pub returns-clause-ok : goal.returns-clause-ok
returns-clause-ok g c =
    c.push_lazy.ensures
    ∙ ap (λ queued. queued ++ map (λ peer. (peer, c.args.id.now, c.args.round)) (lazy_but c.args.left_out.now c.args.members.now)) c.in_ok-reserve.ensures.items
    ∙ sym (with_entries-new (lazy_but c.args.left_out.now c.args.members.now) c.args.id.now c.args.round c.args.queued.now.items c.requires)
