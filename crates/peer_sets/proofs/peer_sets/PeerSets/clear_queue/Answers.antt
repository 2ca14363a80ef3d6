use Rattle.peer_sets.proofs.SoundLemmas.{sound-cleared}
use Rattle.peer_sets.proofs.peer_sets.PeerSets.clear_queue.Goals as goal

pub invariant_of-self : goal.invariant_of-self
invariant_of-self g c = rw c.clear.ensures.items (sound-cleared c.self.inside.members.items c.self.inside.queued.items c.self.invariant)
