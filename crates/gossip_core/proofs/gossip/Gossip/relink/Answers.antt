use Rattle.std.proofs.Common.{◌≡◌, ◌∙◌, subst, sym}
use Rattle.known_messages.specs.Known.{ids}
use Rattle.peer_sets.specs.PeerSets.{PeerSets}
use Rattle.gossip_core.specs.Store.{AreKnown}
use Rattle.gossip_core.proofs.KnownLemmas.{known-without_all_entries}
use Rattle.gossip_core.proofs.GossipLemmas.{after_links, state_of}
use Rattle.gossip_core.specs.State.{GossipState}
use Rattle.gossip_core.specs.Table.{after_downs, after_ups}
use Rattle.gossip_core.proofs.gossip.Gossip.relink.Goals as goal

pub invariant_of-self-2 : goal.invariant_of-self-2
invariant_of-self-2 g c = (
  c.self.invariant.0,
  subst (λ (p : PeerSets). AreKnown (ids c.self.inside.known) c.self.inside.held.messages p.queued) (sym c.in_ok-relink.ensures.ok)
      (known-without_all_entries (ids c.self.inside.known) c.self.inside.held.messages c.args.downs.now c.self.inside.peers.queued c.self.invariant.1),
)

pub returns-clause-ok : goal.returns-clause-ok
returns-clause-ok g c =
    subst (λ (s : GossipState). state_of c.self.inside.me c.self.inside.threshold c.self.inside.keep c.self.inside.spent c.relink.new.self c.down_all.new.self
    (ids c.self.inside.known) c.self.inside.held.messages ≡ after_ups c.args.ups.now (after_downs c.args.downs.now s))
    c.self.view_is
    ((λ i. state_of c.self.inside.me c.self.inside.threshold c.self.inside.keep c.self.inside.spent
    (c.in_ok-relink.ensures.ok i) (c.down_all.ensures i) (ids c.self.inside.known) c.self.inside.held.messages)
    ∙ after_links c.args.downs.now c.args.ups.now (state_of c.self.inside.me c.self.inside.threshold c.self.inside.keep
    c.self.inside.spent c.self.inside.peers c.self.inside.missing (ids c.self.inside.known) c.self.inside.held.messages))
