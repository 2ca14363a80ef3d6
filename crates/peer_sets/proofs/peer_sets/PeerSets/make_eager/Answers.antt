use Rattle.peer_sets.proofs.SoundLemmas.{sound-with_kind}
use Rattle.peer_sets.specs.declared.members.PeerKind.TheVariants.{Eager}
use Rattle.peer_sets.proofs.peer_sets.PeerSets.make_eager.Goals as goal

pub invariant_of-self : goal.invariant_of-self
invariant_of-self g c = rw c.set_kind.ensures (sound-with_kind c.self.inside.members.items c.self.inside.queued.items c.self.invariant c.args.name.now Eager)
