-- The next message is not known, and it has the next number, so it is counted.
use Rattle.std.proofs.Common.{◌≡◌, ◌+◌, ◌++◌, ◌∷◌, [], None, sym, refl, subst}
use Rattle.std.specs.FinSet as set
use Rattle.known_messages.specs.Known.{ids}
use Rattle.known_messages.specs.Held.{kept_last}
use Rattle.node_names.specs.declared.ids.MsgId.{MsgId}
use Rattle.peer_sets.specs.Members.{lazy_but}
use Rattle.peer_sets.specs.PeerSets.{PeerSets}
use Rattle.gossip_core.specs.State.{GossipState}
use Rattle.gossip_core.specs.Store.{AreCounted, AreKnown}
use Rattle.gossip_core.specs.Table.{outcome}
use Rattle.gossip_core.specs.declared.call.CallOf.TheVariants.{Broadcast}
use Rattle.gossip_core.proofs.GossipLemmas.{after_broadcast, counts_next, lacks_next, state_of}
use Rattle.gossip_core.proofs.KnownLemmas.{known-with_entries, not_held, unqueued}
use Rattle.gossip_core.proofs.gossip.Gossip.take_broadcast.Goals as goal

pub keep-requires-clause-absent : goal.keep-requires-clause-absent
keep-requires-clause-absent g c =
    not_held (ids c.self.inside.known) c.self.inside.held.messages c.self.inside.peers.queued c.self.invariant.1
    (record { origin = c.self.inside.me; seq = c.self.inside.spent + 1 })
    (lacks_next (ids c.self.inside.known) c.self.inside.me c.self.inside.spent c.self.invariant.0)

pub keep-requires-clause-unqueued : goal.keep-requires-clause-unqueued
keep-requires-clause-unqueued g c =
    unqueued (ids c.self.inside.known) c.self.inside.held.messages c.self.inside.peers.queued c.self.invariant.1
    (record { origin = c.self.inside.me; seq = c.self.inside.spent + 1 })
    (lacks_next (ids c.self.inside.known) c.self.inside.me c.self.inside.spent c.self.invariant.0)

pub invariant_of-self-2 : goal.invariant_of-self-2
invariant_of-self-2 g c =
    let id : MsgId = record { origin = c.self.inside.me; seq = c.self.inside.spent + 1 } in (
      subst (λ known. AreCounted c.self.inside.me known (c.self.inside.spent + 1)) (sym c.in_ok-keep.ensures.known)
          (counts_next (ids c.self.inside.known) id c.self.inside.me c.self.inside.spent c.self.invariant.0 refl),
      subst (λ known. AreKnown known c.keep.new.held.messages c.keep.new.peers.queued) (sym c.in_ok-keep.ensures.known)
          (subst (λ held. AreKnown (set.insert (ids c.self.inside.known) id) held c.keep.new.peers.queued) (sym c.in_ok-keep.ensures.held)
          (subst (λ (p : PeerSets). AreKnown (set.insert (ids c.self.inside.known) id)
          (kept_last c.self.inside.keep (c.self.inside.held.messages ++ (id, c.args.payload) ∷ [])) p.queued) (sym c.in_ok-keep.ensures.peers)
          (known-with_entries (ids c.self.inside.known) id
          (lazy_but None c.self.inside.peers.members)
          0 c.args.payload c.self.inside.keep c.self.inside.held.messages c.self.inside.peers.queued c.self.invariant.1))),
    )

pub returns-clause-ok : goal.returns-clause-ok
returns-clause-ok g c =
    subst (λ (s : GossipState). state_of c.self.inside.me c.self.inside.threshold c.self.inside.keep
    (c.self.inside.spent + 1) c.keep.new.peers c.self.inside.missing (ids c.keep.new.known) c.keep.new.held.messages
    ≡ (outcome s (Broadcast c.args.payload)).state)
    c.self.view_is
    (after_broadcast c.self.inside.me c.self.inside.threshold c.self.inside.keep c.self.inside.spent c.self.inside.peers c.self.inside.missing
    (ids c.self.inside.known)
    c.self.inside.held.messages
    (c.self.inside.spent + 1)
    refl c.args.payload c.keep.new.peers
    (ids c.keep.new.known)
    c.keep.new.held.messages c.in_ok-keep.ensures.known c.in_ok-keep.ensures.held c.in_ok-keep.ensures.peers)
