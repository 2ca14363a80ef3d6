-- Whether the peer has an entry of the id is whether its place is there.
use Rattle.std.proofs.Common.{◌∙◌, ◌++◌, ◌∷◌, [], ap, sym, if◌then◌else◌}
use Rattle.peer_sets.proofs.QueueLemmas.{is_queued-when}
use Rattle.peer_sets.proofs.queue.queue.Goals as goal

pub returns-then-is_queued-clause-ok : goal.returns-then-is_queued-clause-ok
returns-then-is_queued-clause-ok g c =
    ap (λ b. if b then c.args.queued.now.items else c.args.queued.now.items ++ c.args.entry.now ∷ [])
    (sym (is_queued-when c.args.entry.now.0 c.args.entry.now.1 c.args.queued.now.items
    c.deref.result.now c.is_queued.result c.deref.ensures.value c.is_queued.ensures ∙ c.if-is_queued.true))

pub returns-clause-ok : goal.returns-clause-ok
returns-clause-ok g c =
    c.in_ok-push.ensures.items
    ∙ ap (λ b. if b then c.args.queued.now.items else c.args.queued.now.items ++ c.args.entry.now ∷ [])
    (sym (is_queued-when c.args.entry.now.0 c.args.entry.now.1 c.args.queued.now.items
    c.deref.result.now c.is_queued.result c.deref.ensures.value c.is_queued.ensures ∙ c.if-is_queued.false))
