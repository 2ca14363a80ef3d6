-- Nothing is known, held or queued.
use Rattle.std.proofs.Common.{[], sym, subst}
use Rattle.known_messages.specs.Known.{ids}
use Rattle.peer_sets.specs.PeerSets.{PeerSets}
use Rattle.gossip_core.specs.Store.{AreCounted, AreKnown}
use Rattle.gossip_core.proofs.GossipLemmas.{counts_none}
use Rattle.gossip_core.proofs.KnownLemmas.{known-none}
use Rattle.gossip_core.proofs.gossip.Gossip.new_tuned.Goals as goal

pub invariant_of-result : goal.invariant_of-result
invariant_of-result g c = (
  subst (λ known. AreCounted c.args.me known c.args.seq_spent) (sym c.new-3.ensures) (counts_none c.args.me c.args.seq_spent),
  subst (λ held. AreKnown (ids c.new-3.result) held c.in_ok-new.field-0.queued) (sym c.new-4.ensures)
      (subst (λ (p : PeerSets). AreKnown (ids c.new-3.result) [] p.queued) (sym c.in_ok-new.ensures) (known-none (ids c.new-3.result))),
)
