use Rattle.known_messages.specs.Known.{ids}
use Rattle.gossip_core.proofs.GossipLemmas.{sound_state}
use Rattle.gossip_core.proofs.gossip.Gossip.peers.Goals as goal

pub returns-clause-sound : goal.returns-clause-sound
returns-clause-sound g c =
    rw (← c.self.view_is) (sound_state c.self.inside.me c.self.inside.threshold c.self.inside.keep c.self.inside.spent c.self.inside.peers c.self.inside.missing
    (ids c.self.inside.known) c.self.inside.held.messages c.self.invariant.0 c.self.invariant.1)
