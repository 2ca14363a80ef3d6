-- The state of a node's core, as contracts see it: its membership and its gossip, joined.
use Rattle.std.specs.Prelude.{◌≡◌, ◌≢◌, ℕ, true, false, List, [], ◌∷◌, None, is_some}
use Rattle.std.specs.FinSet as set
use Rattle.std.specs.List.{AllByRecursion as Each}
use Rattle.std.specs.Map.{keys_of, lookup}
use Rattle.node_names.specs.NodeName.{Name}
use Rattle.node_names.specs.Limits.{Limits}
use Rattle.node_names.specs.Order.{id_cmp}
use Rattle.node_names.specs.Same.{same_id, has_name}
use Rattle.node_names.specs.declared.ids.MsgId.{MsgId}
use Rattle.node_names.specs.declared.ids.Origin.{Origin}
use Rattle.protocol.specs.CoreState.{CoreState}
use Rattle.views.specs.Views.{AreSound}
use Rattle.membership.specs.Membership.{Membership}
use Rattle.peer_sets.specs.Members.{names}
use Rattle.peer_sets.specs.PeerSets.{IsSound as ArePeerSetsSound}
use Rattle.missing.specs.Missing.{IsSound as IsMissingSound}
use Rattle.gossip_core.specs.State.{GossipState, IsSound as IsGossipSound}

-- The node and its run, its membership, its gossip, and how many frame numbers it has spent.
pub record Plum : Type 0 where
  pub me : Origin
  pub membership : Membership
  pub gossip : GossipState
  pub framed : ℕ

-- the core state that consists of the given views and of what the gossip shows
abbrev pub state_with : List Name → List Name → GossipState → CoreState
state_with active passive g =
    record {
      me = g.me;
      has = set.contains g.known;
      payload = λ id. lookup (same_id id) g.held;
      held = keys_of g.held;
      active = active;
      passive = passive;
      queued = g.peers.queued;
      wants = g.missing.wants;
      timers = g.missing.timers;
      count = g.spent;
    }

-- what the core shows of itself
abbrev pub plum_state : Plum → CoreState
plum_state core = state_with core.membership.views.active core.membership.views.passive core.gossip

-- The message is not known, and is of another run.
pub record IsLacked (known : set.FinSet id_cmp) (me : Origin) (id : MsgId) : Type 0 where
  pub unknown : set.contains known id ≡ false
  pub foreign : id.origin ≢ me

-- Each message is held once.
abbrev pub HeldOnce : List (MsgId × List ℕ) → Type 0
HeldOnce [] = Unit {0}
HeldOnce (message ∷ held) = (lookup (same_id message.0) held ≡ None) × HeldOnce held

-- What always holds of a gossip: its sets, its announcements and its store are sound; it holds each message once, and
-- all that it knows if `keep` is 0; the messages in its queue are known; the messages that it wants are lacked, of
-- another run, and announced by members.
pub record IsWhole (g : GossipState) : Type 0 where
  pub peers : ArePeerSetsSound g.peers
  pub missing : IsMissingSound g.missing
  pub store : IsGossipSound g
  pub held_once : HeldOnce g.held
  pub known_is_held : g.keep ≡ 0 → (id : MsgId) → set.contains g.known id ≡ true → is_some (lookup (same_id id) g.held) ≡ true
  pub queued_is_known : Each (λ entry. set.contains g.known entry.1 ≡ true) g.peers.queued
  pub wants_of_members : Each (λ entry. has_name (names g.peers.members) entry.1 ≡ true) g.missing.wants
  pub wants_lacked : Each (λ entry. IsLacked g.known g.me entry.0) g.missing.wants
  pub timers_lacked : Each (λ id. IsLacked g.known g.me id) g.missing.timers

-- What always holds of a core: its views are sound and have these limits, and its gossip keeps as many messages as the
-- limits say; it is the owner of its views; its gossip is whole and belongs to the same run; and the members of the
-- gossip are the names of the active view, in the same order.
pub record IsSoundPlum (limits : Limits) (core : Plum) : Type 0 where
  pub views : AreSound core.membership.views
  pub its_limits : core.membership.views.limits ≡ limits
  pub its_keep : core.gossip.keep ≡ limits.keep
  pub owner : core.membership.views.owner ≡ core.me.name
  pub its_gossip : core.gossip.me ≡ core.me
  pub members : names core.gossip.peers.members ≡ core.membership.views.active
  pub whole : IsWhole core.gossip
