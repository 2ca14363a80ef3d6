use Rattle.std.proofs.Common.{◌≡◌, subst}
use Rattle.std.specs.Prelude.{OnOk}
use Rattle.peer_sets.proofs.SoundLemmas.{by_result, sound-with_lazy}
use Rattle.peer_sets.specs.Members.{lazy_but}
use Rattle.peer_sets.specs.PeerSets.{IsSound}
use Rattle.peer_sets.specs.Queue.{with_entries}
use Rattle.peer_sets.proofs.peer_sets.PeerSets.queue_lazy.Goals as goal

pub invariant_of-self : goal.invariant_of-self
invariant_of-self g c =
    let queued_lazy : OnOk c.queue_lazy.result (c.queue_lazy.new.queued.items
    ≡ with_entries (lazy_but c.args.left_out.now c.self.inside.members.items) c.args.id.now c.args.round c.self.inside.queued.items) =
    subst (λ members. OnOk c.queue_lazy.result
    (c.queue_lazy.new.queued.items ≡ with_entries (lazy_but c.args.left_out.now members) c.args.id.now c.args.round c.self.inside.queued.items))
    c.deref.ensures.value c.queue_lazy.ensures.ok in
    by_result (λ queued. IsSound (record { members = c.self.inside.members.items; queued = queued })) c.queue_lazy.result c.queue_lazy.new.queued.items
    (with_entries (lazy_but c.args.left_out.now c.self.inside.members.items) c.args.id.now c.args.round c.self.inside.queued.items)
    c.self.inside.queued.items queued_lazy c.queue_lazy.ensures.err
    (sound-with_lazy c.self.inside.members.items c.self.inside.queued.items c.self.invariant c.args.left_out.now c.args.id.now c.args.round)
    c.self.invariant
