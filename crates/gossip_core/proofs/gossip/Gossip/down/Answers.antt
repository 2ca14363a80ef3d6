use Rattle.std.proofs.Common.{sym, subst}
use Rattle.known_messages.specs.Known.{ids}
use Rattle.peer_sets.specs.PeerSets.{PeerSets}
use Rattle.gossip_core.specs.Store.{AreKnown}
use Rattle.gossip_core.proofs.KnownLemmas.{known-without_entries}
use Rattle.gossip_core.proofs.gossip.Gossip.down.Goals as goal

pub invariant_of-self : goal.invariant_of-self
invariant_of-self g c = (
  c.self.invariant.0,
  subst (λ (p : PeerSets). AreKnown (ids c.self.inside.known) c.self.inside.held.messages p.queued) (sym c.down.ensures)
      (known-without_entries (ids c.self.inside.known) c.self.inside.held.messages c.args.peer.now c.self.inside.peers.queued c.self.invariant.1),
)
