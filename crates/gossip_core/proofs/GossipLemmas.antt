-- The gossip of a node, by what it holds.
use Rattle.std.proofs.Common.{◌≡◌, ◌≢◌, inl, inr, ◌∙◌, ◌+◌, ◌<◌, ◌≤◌, ℕ, Bool, true, false, List, [], ◌∷◌, ◌++◌, None, Some, sym, ap, subst, refl, arith}
use Rattle.std.specs.FinSet as set
use Rattle.std.proofs.lemmas.Bool.{false≢true}
use Rattle.node_names.specs.NodeName.{Name}
use Rattle.node_names.specs.Order.{id_cmp}
use Rattle.node_names.specs.declared.ids.Origin.{Origin}
use Rattle.node_names.specs.declared.ids.MsgId.{MsgId}
use Rattle.known_messages.specs.Held.{kept_last}
use Rattle.missing.specs.Missing.{Missing, got, without_all}
use Rattle.peer_sets.specs.Members.{lazy_but, with_kind, with_members, without_members}
use Rattle.peer_sets.specs.PeerSets.{PeerSets, relinked}
use Rattle.peer_sets.specs.Queue.{with_entries, without_all_entries}
use Rattle.peer_sets.specs.declared.members.PeerKind.TheVariants.{Eager}
use Rattle.gossip_core.proofs.KnownLemmas.{found_in_insert}
use Rattle.gossip_core.specs.State.{GossipState, IsSound}
use Rattle.gossip_core.specs.Store.{AreCounted, AreKnown}
use Rattle.gossip_core.specs.Table.{outcome, first_copy, next_round, after_downs, after_ups}
use Rattle.gossip_core.specs.declared.call.CallOf.TheVariants.{Broadcast, Down, Up}

-- what contracts see of these fields
abbrev pub state_of : Origin → ℕ → ℕ → ℕ → PeerSets → Missing → set.FinSet id_cmp → List (MsgId × List ℕ) → GossipState
state_of me threshold keep spent peers missing known held =
    record { me = me; threshold = threshold; keep = keep; spent = spent; peers = peers; missing = missing; known = known; held = held }

pub sound_state : (me : Origin) (threshold keep spent : ℕ) (peers : PeerSets) (missing : Missing) (known : set.FinSet id_cmp) (held : List (MsgId × List ℕ)) →
    AreCounted me known spent →
    AreKnown known held peers.queued →
    IsSound (state_of me threshold keep spent peers missing known held)
sound_state me threshold keep spent peers missing known held counted are = record { counted = counted.each; held_is_known = are.each_held }

-- the node's next message is not there
pub lacks_next : (known : set.FinSet id_cmp) (me : Origin) (spent : ℕ) →
    AreCounted me known spent →
    set.contains known (record { origin = me; seq = spent + 1 }) ≡ false
lacks_next known me spent are = go (set.contains known (record { origin = me; seq = spent + 1 })) refl
  where
    go : (b : Bool) → set.contains known (record { origin = me; seq = spent + 1 }) ≡ b → b ≡ false
    go false is = refl
    go true is = absurd (beyond ((are.each (record { origin = me; seq = spent + 1 }) is refl).1))
      where
        beyond : spent + 1 ≤ spent → ⊥
        beyond h = omega (arith, h)

-- nothing is known
pub counts_none : (me : Origin) (spent : ℕ) → AreCounted me set.empty spent
counts_none me spent = record { each = λ id is mine. absurd (false≢true (sym (set.contains-empty id_cmp id) ∙ is)) }

-- ---- one more message

module _ (known : set.FinSet id_cmp) (id : MsgId) (me : Origin) (spent : ℕ) (are : AreCounted me known spent) where
  -- a message of another origin is not counted, and the next own one is
  pub counts_foreign : id.origin ≢ me → AreCounted me (set.insert known id) spent
  counts_foreign foreign = record {
    each = λ q is mine. elim (found_in_insert known id q is) [
      | inl was ↦ are.each q was mine
      | inr same ↦ absurd (foreign (sym (ap (λ (i : MsgId). i.origin) same) ∙ mine))
    ];
  }

  pub counts_next : id.seq ≡ spent + 1 → AreCounted me (set.insert known id) (spent + 1)
  counts_next next = record {
    each =
        λ q is mine. elim (found_in_insert known id q is) [ inl was ↦ older (are.each q was mine) | inr same ↦ newest (ap (λ (i : MsgId). i.seq) same ∙ next) ];
  }
    where
      older : {n : ℕ} → (0 < n) × (n ≤ spent) → (0 < n) × (n ≤ spent + 1)
      older h = (h.0, omega (arith, h.1))

      newest : {n : ℕ} → n ≡ spent + 1 → (0 < n) × (n ≤ spent + 1)
      newest e = (omega (arith, e), omega (arith, e))

-- ---- the rows of the table

module _ (me : Origin) (threshold keep spent : ℕ) (peers : PeerSets) (missing : Missing) (known : set.FinSet id_cmp) (held : List (MsgId × List ℕ)) where
  -- the message that is broadcast
  abbrev Broadcasts : ℕ → Type 0
  Broadcasts seq =
      (payload : List ℕ) (peers' : PeerSets) (known' : set.FinSet id_cmp) (held' : List (MsgId × List ℕ))
      → known' ≡ set.insert known (record { origin = me; seq = seq })
      → held' ≡ kept_last keep (held ++ (record { origin = me; seq = seq }, payload) ∷ [])
      → peers' ≡ record peers { queued = with_entries (lazy_but None peers.members) (record { origin = me; seq = seq }) 0 peers.queued }
      → state_of me threshold keep seq peers' missing known' held'
      ≡ (outcome (state_of me threshold keep spent peers missing known held) (Broadcast payload)).state

  pub after_broadcast : (seq : ℕ) → seq ≡ spent + 1 → Broadcasts seq
  after_broadcast seq next =
      subst Broadcasts (sym next)
      (λ payload peers' known' held' is_known is_held is_peers.
      λ i.
      record { me = me; threshold = threshold; keep = keep; spent = spent + 1; peers = is_peers i; missing = missing; known = is_known i; held = is_held i })

  -- the first copy of a message
  abbrev Takes : ℕ → ℕ → Type 0
  Takes round next =
      (sender : Name) (id : MsgId) (payload : List ℕ) (peers' peers'' : PeerSets)
      (missing' : Missing) (known' : set.FinSet id_cmp) (held' : List (MsgId × List ℕ))
      → known' ≡ set.insert known id
      → held' ≡ kept_last keep (held ++ (id, payload) ∷ [])
      → peers' ≡ record peers { queued = with_entries (lazy_but (Some sender) peers.members) id next peers.queued }
      → missing' ≡ got id missing
      → peers'' ≡ record peers' { members = with_kind sender Eager peers'.members }
      → state_of me threshold keep spent peers'' missing' known' held'
      ≡ (first_copy sender id round payload (state_of me threshold keep spent peers missing known held)).state

  pub after_first_copy : (round next : ℕ) → next ≡ next_round round → Takes round next
  after_first_copy round next is_next =
      subst (Takes round) (sym is_next)
      (λ sender id payload peers' peers'' missing' known' held' is_known is_held is_peers is_missing is_eager.
      let are_peers : peers'' ≡ record {
        members = with_kind sender Eager peers.members;
        queued = with_entries (lazy_but (Some sender) peers.members) id (next_round round) peers.queued;
      } =
      is_eager ∙ ap (λ (p : PeerSets). record p { members = with_kind sender Eager p.members }) is_peers in
      λ i.
      record { me = me; threshold = threshold; keep = keep; spent = spent; peers = are_peers i; missing = is_missing i; known = is_known i; held = is_held i })

-- ---- links go down and come up

pub after_downs-is : (downs : List Name) (g : GossipState) →
    after_downs downs g ≡ record g {
      peers = record { members = without_members downs g.peers.members; queued = without_all_entries downs g.peers.queued };
      missing = without_all downs g.missing;
    }
after_downs-is [] g = refl
after_downs-is (name ∷ names) g = after_downs-is names (outcome g (Down name)).state

pub after_ups-is : (ups : List Name) (g : GossipState) → after_ups ups g ≡ record g { peers = record g.peers { members = with_members ups g.peers.members } }
after_ups-is [] g = refl
after_ups-is (name ∷ names) g = after_ups-is names (outcome g (Up name)).state

pub after_links : (downs ups : List Name) (g : GossipState) →
    record g { peers = relinked downs ups g.peers; missing = without_all downs g.missing } ≡ after_ups ups (after_downs downs g)
after_links downs ups g =
    sym (ap (after_ups ups) (after_downs-is downs g) ∙ after_ups-is ups (record g {
      peers = record { members = without_members downs g.peers.members; queued = without_all_entries downs g.peers.queued };
      missing = without_all downs g.missing;
    }))
