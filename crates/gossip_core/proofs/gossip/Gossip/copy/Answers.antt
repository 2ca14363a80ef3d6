-- The copies of what is known and of the messages are equal to them.
use Rattle.std.proofs.Common.{◌∙◌, subst, sym}
use Rattle.known_messages.specs.Known.{ids}
use Rattle.peer_sets.specs.PeerSets.{PeerSets}
use Rattle.gossip_core.specs.Store.{AreCounted, AreKnown}
use Rattle.gossip_core.proofs.GossipLemmas.{state_of}
use Rattle.gossip_core.proofs.gossip.Gossip.copy.Goals as goal

pub invariant_of-result : goal.invariant_of-result
invariant_of-result g c = (
  subst (λ known. AreCounted c.self.inside.me known c.self.inside.spent) (sym c.in_ok-copy-3.ensures) c.self.invariant.0,
  subst (λ known. AreKnown known c.in_ok-copy-4.field-0.messages c.in_ok-copy.field-0.queued) (sym c.in_ok-copy-3.ensures)
      (subst (λ held. AreKnown (ids c.self.inside.known) held c.in_ok-copy.field-0.queued) (sym c.in_ok-copy-4.ensures)
      (subst (λ (p : PeerSets). AreKnown (ids c.self.inside.known) c.self.inside.held.messages p.queued) (sym c.in_ok-copy.ensures) c.self.invariant.1)),
)

pub returns : goal.returns
returns g c =
    (λ i. state_of c.self.inside.me c.self.inside.threshold c.self.inside.keep c.self.inside.spent
    (c.in_ok-copy.ensures i) (c.in_ok-copy-2.ensures i) (c.in_ok-copy-3.ensures i) (c.in_ok-copy-4.ensures i)) ∙ c.self.view_is
