use Rattle.std.proofs.Common.{◌≡◌, true, subst, sym, rules}
use Rattle.peer_sets.specs.Members.{is_member}
use Rattle.peer_sets.proofs.SoundLemmas.{by_result, sound-with_entry}
use Rattle.peer_sets.specs.PeerSets.{PeerSets, IsSound}
use Rattle.peer_sets.specs.Queue.{with_entry}
use Rattle.peer_sets.proofs.peer_sets.PeerSets.queue.Goals as goal

pub invariant_of-self : goal.invariant_of-self
invariant_of-self g c =
    let is : is_member c.self.inside.members.items c.args.peer.now ≡ true =
    subst (λ (sets : PeerSets). is_member sets.members c.args.peer.now ≡ true) (sym c.self.view_is) (search (rules, c.requires)) in
    by_result (λ queued. IsSound (record { members = c.self.inside.members.items; queued = queued })) c.queue.result c.queue.new.queued.items
    (with_entry c.args.peer.now c.args.id.now c.args.round c.self.inside.queued.items)
    c.self.inside.queued.items c.queue.ensures.ok c.queue.ensures.err
    (sound-with_entry c.self.inside.members.items c.self.inside.queued.items c.self.invariant c.args.peer.now c.args.id.now c.args.round is)
    c.self.invariant
