use Rattle.peer_sets.proofs.SoundLemmas.{sound-without}
use Rattle.peer_sets.proofs.peer_sets.PeerSets.down.Goals as goal

pub invariant_of-self : goal.invariant_of-self
invariant_of-self g c =
    rw (c.remove.ensures, c.remove-2.ensures) (sound-without c.self.inside.members.items c.self.inside.queued.items c.self.invariant c.args.name.now)
