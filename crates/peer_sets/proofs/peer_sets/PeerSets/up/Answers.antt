use Rattle.peer_sets.proofs.SoundLemmas.{by_result, sound-with_member}
use Rattle.peer_sets.specs.Members.{with_member}
use Rattle.peer_sets.specs.PeerSets.{IsSound}
use Rattle.peer_sets.proofs.peer_sets.PeerSets.up.Goals as goal

pub invariant_of-self : goal.invariant_of-self
invariant_of-self g c =
    by_result (λ members. IsSound (record { members = members; queued = c.self.inside.queued.items })) c.add.result c.add.new.members.items
    (with_member c.args.name.now c.self.inside.members.items)
    c.self.inside.members.items c.add.ensures.ok c.add.ensures.err
    (sound-with_member c.self.inside.members.items c.self.inside.queued.items c.self.invariant c.args.name.now)
    c.self.invariant
