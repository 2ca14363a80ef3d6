-- How a node's core starts and steps: a packet or a tick of the membership changes the views, and the gossip is told
-- which links went down and came up; who is to join sends JOIN; the gossip handles everything else.
use Rattle.std.specs.Prelude.{◌≡◌, ◌+◌, ◌-◌, ◌^◌, ◌<◌, ◌≤◌, ◌⊎◌, ◌||◌, ℕ, Bool, List, [], ◌∷◌, ◌++◌, Option, None, Some, length, if◌then◌else◌}
use Rattle.std.specs.FinSet as set
use Rattle.node_names.specs.NodeName.{Name}
use Rattle.node_names.specs.Limits.{Limits, IsAllowed as AreAllowed}
use Rattle.node_names.specs.Same.{same_name, has_name}
use Rattle.node_names.specs.declared.dice.Dice.{Dice}
use Rattle.node_names.specs.declared.ids.MsgId.{MsgId}
use Rattle.node_names.specs.declared.ids.Origin.{Origin}
use Rattle.protocol.specs.Delivery.{Delivery}
use Rattle.protocol.specs.IdentityLaw.{IsOutOfNumbers}
use Rattle.protocol.specs.Output.{Output}
use Rattle.protocol.specs.Stimulus.{Stimulus}
use Rattle.protocol.specs.declared.TheConstants.{MAX_PAYLOAD}
use Rattle.protocol.specs.declared.stimulus.StimulusOf.TheVariants.{Broadcast, Arrive, Fire, Flush, Down, Shuffle, Join}
use Rattle.frames.specs.Body.{Body}
use Rattle.frames.specs.Frame.{Frame}
use Rattle.frames.specs.declared.body.BodyOf.TheVariants as body
use Rattle.views.specs.Views.{fresh}
use Rattle.membership.specs.Membership.{Membership, Turn, ended, still}
use Rattle.membership.specs.Event.{Event}
use Rattle.membership.specs.declared.event.EventOf.TheVariants as on
use Rattle.membership.specs.Table.{table}
use Rattle.peer_sets.specs.Members.{all_eager}
use Rattle.gossip_core.specs.State.{GossipState}
use Rattle.gossip_core.specs.Table.{Call, after_downs, after_ups, outcome}
use Rattle.gossip_core.specs.declared.call.CallOf.TheVariants as call
use Rattle.node_core.specs.Plum.{Plum, plum_state}

-- The core's two parts after a stimulus, and what they send and deliver, before the packets are numbered.
pub record Turned : Type 0 where
  pub membership : Membership
  pub gossip : GossipState
  pub sends : List (Name × Body)
  pub delivered : Option (MsgId × List ℕ)

-- nothing happens
abbrev pub idle : Membership → GossipState → Turned
idle m g = record { membership = m; gossip = g; sends = []; delivered = None }

-- the gossip handles the call
abbrev pub by_gossip : Membership → GossipState → Call → Turned
by_gossip m g c =
    let done = outcome g c in
    record { membership = m; gossip = done.state; sends = done.sends; delivered = done.delivered }

-- the gossip is told which links the turn closed, and then which it opened
abbrev pub moved : GossipState → Turn → Turned
moved g turn = record { membership = ended turn; gossip = after_ups turn.ups (after_downs turn.downs g); sends = turn.sends; delivered = None }

-- the membership handles the event
abbrev pub by_membership : Membership → GossipState → Event → Dice → Turned
by_membership m g event dice = moved g (table event dice (still m))

-- a packet with this body came from the sender
abbrev pub heard : Membership → GossipState → Name → Body → Dice → Turned
heard m g sender body.Join dice = by_membership m g (on.Join sender) dice
heard m g sender (body.ForwardJoin new ttl) dice = by_membership m g (on.ForwardJoin sender new ttl) dice
heard m g sender (body.Neighbor high) dice = by_membership m g (on.Neighbor sender high) dice
heard m g sender (body.NeighborReply accepted) dice = by_membership m g (on.Reply sender accepted) dice
heard m g sender body.Disconnect dice = by_membership m g (on.Disconnect sender) dice
heard m g sender (body.Shuffle origin ttl names) dice = by_membership m g (on.Shuffle sender origin ttl names) dice
heard m g sender (body.ShuffleReply names) dice = by_membership m g (on.ShuffleReply sender names) dice
heard m g sender (body.Gossip id round payload) dice = by_gossip m g (call.OnGossip sender id round payload)
heard m g sender (body.IHave entries) dice = by_gossip m g (call.OnIHave sender entries)
heard m g sender (body.Graft id round) dice = by_gossip m g (call.OnGraft sender id round)
heard m g sender body.Prune dice = by_gossip m g (call.OnPrune sender)
heard m g sender body.GraftPeer dice = by_gossip m g (call.OnGraftPeer sender)

-- the packets of a start: JOIN to the contact, if there is one
abbrev pub opening : Option Name → List (Name × Body)
opening None = []
opening (Some contact) = (contact, body.Join) ∷ []

-- whether there is nothing to join by the contact: it is the node itself, or active
abbrev pub is_joined : Origin → Membership → Name → Bool
is_joined me m contact = same_name contact me.name || has_name m.views.active contact

-- the contact is sent JOIN, as at a start, and nothing else happens
abbrev pub greeting : Membership → GossipState → Name → Turned
greeting m g contact = record { membership = m; gossip = g; sends = opening (Some contact); delivered = None }

-- What each stimulus does. A packet whose sender has the node's own name does nothing.
abbrev pub turned : Origin → Membership → GossipState → Stimulus Frame → Turned
turned me m g (Broadcast payload) = by_gossip m g (call.Broadcast payload)
turned me m g (Arrive sender frame dice) = if same_name sender.name me.name then idle m g else heard m g sender.name frame.body dice
turned me m g (Fire id) = by_gossip m g (call.Fire id)
turned me m g Flush = by_gossip m g call.Flush
turned me m g (Down peer dice) = by_membership m g (on.Down peer) dice
turned me m g (Shuffle dice) = by_membership m g on.Tick dice
turned me m g (Join contact) = if is_joined me m contact then idle m g else greeting m g contact

-- the bodies as frames of this origin, numbered in their order from the next number on
abbrev pub numbered : Origin → ℕ → List (Name × Body) → List (Name × Frame)
numbered me framed [] = []
numbered me framed (send ∷ sends) = (send.0, record { sender = me; number = framed + 1; body = send.1 }) ∷ numbered me (framed + 1) sends

-- the delivery of this node, if there is one
abbrev pub delivered_at : Origin → Option (MsgId × List ℕ) → List Delivery
delivered_at me None = []
delivered_at me (Some message) = record { node = me; id = message.0; payload = message.1 } ∷ []

-- the output with what is sent, numbered from the next number on, and what is delivered appended
abbrev pub appended : Origin → ℕ → List (Name × Body) → Option (MsgId × List ℕ) → Output Frame → Output Frame
appended me framed sends delivered out =
    record { sends = out.sends ++ numbered me framed sends; deliveries = out.deliveries ++ delivered_at me delivered }

-- the core after the step
abbrev pub gone_on : Plum → Turned → Plum
gone_on core t = record { me = core.me; membership = t.membership; gossip = t.gossip; framed = core.framed + length t.sends }

-- If the stimulus is a broadcast, its payload is no longer than payloads may be.
abbrev pub IsAllowed : Stimulus Frame → Type 0
IsAllowed (Broadcast payload) = length payload ≤ MAX_PAYLOAD
IsAllowed (Arrive sender frame dice) = Unit {0}
IsAllowed (Fire id) = Unit {0}
IsAllowed Flush = Unit {0}
IsAllowed (Down peer dice) = Unit {0}
IsAllowed (Shuffle dice) = Unit {0}
IsAllowed (Join contact) = Unit {0}

-- The step does what the stimulus does, and numbers its packets.
pub record PlumSteps (old : Plum) (stimulus : Stimulus Frame) (sends : List (Name × Frame)) (given : List Delivery) (new : Plum) : Type 0 where
  pub allowed : IsAllowed stimulus
  pub leaves : new ≡ gone_on old (turned old.me old.membership old.gossip stimulus)
  pub sent : sends ≡ numbered old.me old.framed (turned old.me old.membership old.gossip stimulus).sends
  pub delivers : given ≡ delivered_at old.me (turned old.me old.membership old.gossip stimulus).delivered

-- a core that has these peers and nothing else, and has spent `spent` message numbers and `framed` frame numbers
abbrev pub newcomer : Origin → Limits → List Name → ℕ → ℕ → Plum
newcomer me limits peers spent framed =
    record {
      me = me;
      membership = record { views = fresh me.name limits peers; asked = None; shuffled = [] };
      gossip =
          record {
            me = me;
            threshold = limits.threshold;
            keep = limits.keep;
            spent = spent;
            peers = record { members = all_eager peers; queued = [] };
            missing = record { wants = []; timers = [] };
            known = set.empty;
            held = [];
          };
      framed = framed;
    }

-- The core starts with its peers and allowed limits, and joins by its contact.
pub record PlumStartsCounted (spent framed : ℕ) (me : Origin) (limits : Limits)
    (peers : List Name) (contact : Option Name) (sends : List (Name × Frame)) (core : Plum) : Type 0 where
  pub allowed : AreAllowed limits
  pub leaves : core ≡ newcomer me limits peers spent (framed + length (opening contact))
  pub sent : sends ≡ numbered me framed (opening contact)

-- the same with no number spent
abbrev pub PlumStarts : Origin → Limits → List Name → Option Name → List (Name × Frame) → Plum → Type 0
PlumStarts = PlumStartsCounted 0 0

-- The numbers are used up: no message number is left for a broadcast, or fewer frame numbers are left than the step
-- needs.
abbrev pub PlumIsSpent : Plum → Stimulus Frame → Type 0
PlumIsSpent core stimulus =
    IsOutOfNumbers (plum_state core) stimulus ⊎ (2 ^ 64 - 1 < core.framed + length (turned core.me core.membership core.gossip stimulus).sends)

-- the core after the stimulus
abbrev pub plum_after : Plum → Stimulus Frame → Plum
plum_after core stimulus = gone_on core (turned core.me core.membership core.gossip stimulus)
