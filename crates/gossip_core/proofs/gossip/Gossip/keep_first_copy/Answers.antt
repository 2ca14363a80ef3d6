-- A message that is taken is of another origin, so it is not counted. It did not wait, and its entries do.
use Rattle.std.proofs.Common.{◌≡◌, ◌≢◌, ◌++◌, ◌∷◌, [], Some, false, ap, sym, subst, ◌∙◌}
use Rattle.std.specs.FinSet as set
use Rattle.known_messages.specs.Known.{ids}
use Rattle.known_messages.specs.Held.{kept_last}
use Rattle.peer_sets.specs.Members.{lazy_but}
use Rattle.peer_sets.specs.PeerSets.{PeerSets}
use Rattle.peer_sets.specs.Queue.{with_entries}
use Rattle.gossip_core.specs.State.{GossipState}
use Rattle.gossip_core.specs.Store.{AreCounted, AreKnown}
use Rattle.gossip_core.specs.Table.{first_copy}
use Rattle.gossip_core.proofs.GossipLemmas.{counts_foreign, after_first_copy, state_of}
use Rattle.gossip_core.proofs.KnownLemmas.{known-with_entries, not_held, unqueued}
use Rattle.gossip_core.proofs.gossip.Gossip.keep_first_copy.Goals as goal

unknown : (g : _) (c : goal.After-saturating_add g) → set.contains (ids c.self.inside.known) c.args.id.now ≡ false
unknown g c = subst (λ (s : GossipState). set.contains s.known c.args.id.now ≡ false) (sym c.self.view_is) c.requires.unknown

pub keep-requires-clause-absent : goal.keep-requires-clause-absent
keep-requires-clause-absent g c =
    not_held (ids c.self.inside.known) c.self.inside.held.messages c.self.inside.peers.queued c.self.invariant.1 c.args.id.now (unknown g c)

pub keep-requires-clause-unqueued : goal.keep-requires-clause-unqueued
keep-requires-clause-unqueued g c =
    unqueued (ids c.self.inside.known) c.self.inside.held.messages c.self.inside.peers.queued c.self.invariant.1 c.args.id.now (unknown g c)

pub invariant_of-self-2 : goal.invariant_of-self-2
invariant_of-self-2 g c =
    let foreign : c.args.id.now.origin ≢ c.self.inside.me = subst (λ (s : GossipState). c.args.id.now.origin ≢ s.me) (sym c.self.view_is) c.requires.foreign in
    let queued : c.make_eager.new.self.queued
    ≡ with_entries (lazy_but (Some c.args.sender.now) c.self.inside.peers.members) c.args.id.now c.saturating_add.result c.self.inside.peers.queued =
    ap (λ (p : PeerSets). p.queued) c.make_eager.ensures.changed ∙ ap (λ (p : PeerSets). p.queued) c.in_ok-keep.ensures.peers in (
      subst (λ known. AreCounted c.self.inside.me known c.self.inside.spent) (sym c.in_ok-keep.ensures.known)
          (counts_foreign (ids c.self.inside.known) c.args.id.now c.self.inside.me c.self.inside.spent c.self.invariant.0 foreign),
      subst (λ known. AreKnown known c.keep.new.held.messages c.make_eager.new.self.queued) (sym c.in_ok-keep.ensures.known)
          (subst (λ held. AreKnown (set.insert (ids c.self.inside.known) c.args.id.now) held c.make_eager.new.self.queued) (sym c.in_ok-keep.ensures.held)
          (subst (AreKnown (set.insert (ids c.self.inside.known) c.args.id.now)
          (kept_last c.self.inside.keep (c.self.inside.held.messages ++ (c.args.id.now, c.args.payload) ∷ []))) (sym queued)
          (known-with_entries (ids c.self.inside.known) c.args.id.now
          (lazy_but (Some c.args.sender.now) c.self.inside.peers.members)
          c.saturating_add.result c.args.payload c.self.inside.keep c.self.inside.held.messages c.self.inside.peers.queued c.self.invariant.1))),
    )

pub returns-clause-ok : goal.returns-clause-ok
returns-clause-ok g c =
    subst (λ (s : GossipState). state_of c.self.inside.me c.self.inside.threshold c.self.inside.keep c.self.inside.spent c.make_eager.new.self c.got.new.self
    (ids c.keep.new.known) c.keep.new.held.messages ≡ (first_copy c.args.sender.now c.args.id.now c.args.round c.args.payload s).state)
    c.self.view_is
    (after_first_copy c.self.inside.me c.self.inside.threshold c.self.inside.keep c.self.inside.spent c.self.inside.peers c.self.inside.missing
    (ids c.self.inside.known)
    c.self.inside.held.messages c.args.round c.saturating_add.result c.saturating_add.ensures
    c.args.sender.now c.args.id.now c.args.payload c.keep.new.peers c.make_eager.new.self c.got.new.self
    (ids c.keep.new.known)
    c.keep.new.held.messages c.in_ok-keep.ensures.known c.in_ok-keep.ensures.held c.in_ok-keep.ensures.peers c.got.ensures c.make_eager.ensures.changed)
