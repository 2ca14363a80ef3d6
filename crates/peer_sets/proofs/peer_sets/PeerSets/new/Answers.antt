use Rattle.peer_sets.proofs.SoundLemmas.{sound-new}
use Rattle.peer_sets.proofs.peer_sets.PeerSets.new.Goals as goal

pub invariant_of-result : goal.invariant_of-result
invariant_of-result g c = rw (c.in_ok-all_eager.ensures, c.new.ensures.items) (sound-new c.args.peers.now c.requires)
