-- Which part of a node handles a stimulus: the membership, the gossip or neither, which a contact that is sent JOIN
-- needs.
use denote.Ref.{Bor}
use Rattle.std.specs.Prelude.{◌≡◌, ◌+◌, ℕ, List, Option, None, Some, length, if◌then◌else◌}
use Rattle.std.specs.declared.boxed.Box.{Box}
use Rattle.node_names.specs.NodeName.{Name}
use Rattle.node_names.specs.Same.{same_name}
use Rattle.node_names.specs.declared.dice.Dice.{Dice}
use Rattle.node_names.specs.declared.ids.MsgId.{MsgId}
use Rattle.node_names.specs.declared.ids.Origin.{Origin}
use Rattle.protocol.specs.Stimulus.{Stimulus}
use Rattle.protocol.specs.declared.stimulus.StimulusOf.TheVariants.{Broadcast, Arrive, Fire, Flush, Down, Shuffle, Join}
use Rattle.frames.specs.Body.{Body}
use Rattle.frames.specs.Frame.{Frame}
use Rattle.frames.specs.declared.body.BodyOf.TheVariants as body
use Rattle.membership.specs.Event.{Event, lent as lent_event}
use Rattle.membership.specs.Membership.{Membership as Member, Turn as MemberTurn, ended}
use Rattle.membership.specs.Table.{table}
use Rattle.membership.specs.declared.event.EventOf.{EventOf}
use Rattle.membership.specs.declared.event.EventOf.TheVariants as on
use Rattle.gossip_core.specs.Refusals.{IsSpent, IsTooLong}
use Rattle.gossip_core.specs.Rows.{CanChange, Row, changed}
use Rattle.gossip_core.specs.State.{GossipState}
use Rattle.gossip_core.specs.Table.{Call, after_downs, after_ups, lent as lent_call}
use Rattle.gossip_core.specs.declared.call.CallOf.{CallOf}
use Rattle.gossip_core.specs.declared.call.CallOf.TheVariants as call
use Rattle.node_core.specs.Plum.{Plum}
use Rattle.node_core.specs.Steps.{IsAllowed, Turned, by_gossip, by_membership, greeting, idle, is_joined, turned}
use Rattle.node_core.specs.declared.dispatch.PartOf.{PartOf}
use Rattle.node_core.specs.declared.dispatch.PartOf.TheVariants.{Membership, Gossip, Greeting, Nobody}

-- the part that handles a stimulus, with the event or the call that the stimulus is to it
abbrev pub Part : Type 0
Part = PartOf Event Call Dice

-- the part whose lists and payloads are borrowed, as a part that owns them
abbrev pub lent : PartOf (EventOf (Bor (List Name))) (CallOf (Bor (List ℕ)) (Bor (List (MsgId × ℕ)))) (Bor Dice) → Part
lent (Membership event dice) = Membership (lent_event event) dice.now
lent (Gossip called) = Gossip (lent_call called)
lent (Greeting contact) = Greeting contact
lent Nobody = Nobody

-- the part that handles a packet with this body
abbrev pub part_heard : Name → Body → Dice → Part
part_heard sender body.Join dice = Membership (on.Join sender) dice
part_heard sender (body.ForwardJoin new ttl) dice = Membership (on.ForwardJoin sender new ttl) dice
part_heard sender (body.Neighbor high) dice = Membership (on.Neighbor sender high) dice
part_heard sender (body.NeighborReply accepted) dice = Membership (on.Reply sender accepted) dice
part_heard sender body.Disconnect dice = Membership (on.Disconnect sender) dice
part_heard sender (body.Shuffle origin ttl names) dice = Membership (on.Shuffle sender origin ttl names) dice
part_heard sender (body.ShuffleReply names) dice = Membership (on.ShuffleReply sender names) dice
part_heard sender (body.Gossip id round payload) dice = Gossip (call.OnGossip sender id round payload)
part_heard sender (body.IHave entries) dice = Gossip (call.OnIHave sender entries)
part_heard sender (body.Graft id round) dice = Gossip (call.OnGraft sender id round)
part_heard sender body.Prune dice = Gossip (call.OnPrune sender)
part_heard sender body.GraftPeer dice = Gossip (call.OnGraftPeer sender)

-- the part that handles each stimulus; no part handles a packet whose sender has the node's own name, or a contact by
-- which there is nothing to join
abbrev pub part_of : Origin → Member → Stimulus Frame → Part
part_of me m (Broadcast payload) = Gossip (call.Broadcast payload)
part_of me m (Arrive sender frame dice) = if same_name sender.name me.name then Nobody else part_heard sender.name frame.body dice
part_of me m (Fire id) = Gossip (call.Fire id)
part_of me m Flush = Gossip call.Flush
part_of me m (Down peer dice) = Membership (on.Down peer) dice
part_of me m (Shuffle dice) = Membership on.Tick dice
part_of me m (Join contact) = if is_joined me m contact then Nobody else Greeting contact

-- What the membership will be, and which links went down and came up.
pub record ViewChange : Type 0 where
  pub membership : Member
  pub downs : List Name
  pub ups : List Name

-- the contents of the box, if there is one
abbrev pub unboxed : {A : Type 0} → Option (Box ViewChange A) → Option ViewChange
unboxed None = None
unboxed (Some boxed) = Some boxed.value

-- what the membership's turn moved
abbrev pub moved_by : MemberTurn → ViewChange
moved_by done = record { membership = ended done; downs = done.downs; ups = done.ups }

-- What is kept between the halves of a step: what the event of the membership changed, if the step is one; else the row
-- of the gossip's table; and the last frame number.
pub record PreparedStep : Type 0 where
  pub moved : Option ViewChange
  pub row : Row
  pub framed : ℕ

-- what the part does
abbrev pub by_part : Member → GossipState → Part → Turned
by_part m g (Membership event dice) = by_membership m g event dice
by_part m g (Gossip called) = by_gossip m g called
by_part m g (Greeting contact) = greeting m g contact
by_part m g Nobody = idle m g

-- the membership after the step
abbrev pub made_membership : Member → Option ViewChange → Member
made_membership m None = m
made_membership m (Some change) = change.membership

-- the gossip after the step: it is told which links went down and came up, or makes the row's change
abbrev pub made_gossip : GossipState → Option ViewChange → Row → GossipState
made_gossip g None row = changed row g
made_gossip g (Some change) row = after_ups change.ups (after_downs change.downs g)

-- If no view changes, the row's change can be made.
abbrev pub CanMake : GossipState → Option ViewChange → Row → Type 0
CanMake g None row = CanChange g row
CanMake g (Some change) row = Unit {0}

-- What is kept can be made, and leads to these two parts.
abbrev pub Makes : Member → GossipState → Turned → Option ViewChange → Row → Type 0
Makes m g next moved row = CanMake g moved row × (made_membership m moved ≡ next.membership) × (made_gossip g moved row ≡ next.gossip)

-- The part broadcasts a payload that is too long.
abbrev pub IsTooLongPart : Part → Type 0
IsTooLongPart (Membership event dice) = ⊥
IsTooLongPart (Gossip called) = IsTooLong called
IsTooLongPart (Greeting contact) = ⊥
IsTooLongPart Nobody = ⊥

-- The part broadcasts although the numbers of the messages are used up.
abbrev pub IsSpentPart : GossipState → Part → Type 0
IsSpentPart g (Membership event dice) = ⊥
IsSpentPart g (Gossip called) = IsSpent g called
IsSpentPart g (Greeting contact) = ⊥
IsSpentPart g Nobody = ⊥

-- The turn is what the core keeps between the halves of the step for a stimulus that it does not refuse.
pub record IsTurn (core : Plum) (stimulus : Stimulus Frame) (turn : PreparedStep) : Type 0 where
  pub allowed : IsAllowed stimulus
  pub makes : Makes core.membership core.gossip (turned core.me core.membership core.gossip stimulus) turn.moved turn.row
  pub framed : turn.framed ≡ core.framed + length (turned core.me core.membership core.gossip stimulus).sends
