-- When a run is undisturbed for a message, when it is at rest for it, and who gave it to whom.
use Rattle.std.specs.Prelude.{◌≡◌, ◌≢◌, ◌⊎◌, ◌<◌, ◌≤◌, ℕ, List, [], ◌∷◌, ◌++◌, Option, Some, None, false, length, slice_get}
use Rattle.std.specs.List.{AllByRecursion as Each}
use Rattle.std.specs.Option.{IfSome}
use Rattle.node_names.specs.NodeName.{Name}
use Rattle.node_names.specs.declared.ids.MsgId.{MsgId}
use Rattle.node_names.specs.declared.ids.Origin.{Origin}
use Rattle.protocol.specs.Content.{Content}
use Rattle.protocol.specs.CoreState.{CoreState}
use Rattle.protocol.specs.Delivery.{Delivery}
use Rattle.protocol.specs.Lists.{IsOneOf}
use Rattle.world.specs.Entry.{Entry}
use Rattle.world.specs.Event.{Event}
use Rattle.world.specs.Group.{Group, node_of, origin_of}
use Rattle.world.specs.History.{Delivered, HasDelivery, Says, deliveries, delivered_by}
use Rattle.world.specs.Links.{IsSymmetric, Reaches, Runs}
use Rattle.world.specs.declared.event.EventOf.TheVariants.{Start, Broadcast, Arrive, Lose, Again, Fire, Flush, Down, Shuffle, Join, Stop}
use Rattle.world.specs.declared.node_state.NodeState.{NodeState}
use Rattle.world.specs.declared.packet.Packet.{Packet}

-- The event says the message after this past, with whatever payload.
abbrev pub IsSaying : Event → List Entry → MsgId → Type 0
IsSaying event past id = (p : List ℕ) × Says event past id p

-- The event is no start, loss, failed link or stop.
abbrev pub IsCalm : Event → Type 0
IsCalm (Start name incarnation peers contact) = ⊥
IsCalm (Lose place) = ⊥
IsCalm (Down name peer dice) = ⊥
IsCalm (Stop name) = ⊥
IsCalm (Broadcast name payload) = Unit {0}
IsCalm (Arrive place dice) = Unit {0}
IsCalm (Again number) = Unit {0}
IsCalm (Fire name id) = Unit {0}
IsCalm (Flush name) = Unit {0}
IsCalm (Shuffle name dice) = Unit {0}
IsCalm (Join name contact) = Unit {0}

-- One event says the message, and each later one is calm and moves no active view.
abbrev pub SaidAndCalm : List Entry → MsgId → Type 0
SaidAndCalm [] id = ⊥
SaidAndCalm (entry ∷ past) id = IsSaying entry.event past id ⊎ (IsCalm entry.event × (entry.moved ≡ false) × SaidAndCalm past id)

-- No run of a node delivered more than `keep` messages from its delivery of this one on, this one counted.
abbrev pub AreFewSince : ℕ → List Delivery → MsgId → Type 0
AreFewSince keep given id = (node : Origin) (earlier later : List MsgId) → delivered_by node given ≡ earlier ++ id ∷ later → length (id ∷ later) ≤ keep

-- The run is undisturbed for the message: it was said, all was calm from then on, and the links go both ways; and where
-- not all messages are to be kept, no node delivered more than are kept since it delivered this one. No node can know
-- when all have a message, so each forgets by its own count.
pub record IsUndisturbed {C N : Type 0} (state : C → CoreState) (keep : ℕ) (history : List Entry) (group : Group C N) (id : MsgId) : Type 0 where
  pub calm : SaidAndCalm history id
  pub symmetric : IsSymmetric state group
  pub few : 0 < keep → AreFewSince keep (deliveries history) id

-- The packet neither carries nor announces nor asks for the message.
pub record IsSilentOn (content : Content) (id : MsgId) : Type 0 where
  pub carries_not : (p : List ℕ) → content.carried ≢ Some (id, p)
  pub announces_not : (round : ℕ) → IsOneOf (id, round) content.announced → ⊥
  pub asks_not : content.asked ≢ Some id

-- The core has no queued announcement of the message and no timer for it.
pub record IsQuiet (core : CoreState) (id : MsgId) : Type 0 where
  pub queues_not : Each (λ entry. entry.1 ≢ id) core.queued
  pub times_not : Each (λ timed. timed ≢ id) core.timers

-- The group is at rest for the message: no packet in flight is about it, and every running node is quiet about it.
pub record IsAtRest {C N : Type 0} (state : C → CoreState) (content : N → Content) (group : Group C N) (id : MsgId) : Type 0 where
  pub nothing_flies : Each (λ number. IfSome (slice_get group.sent number) (λ packet. IsSilentOn (content packet.note) id)) group.flight
  pub nodes_are_quiet : (name : Name) (core : C) → Runs group name core → IsQuiet (state core) id

-- The event made the deliveries of the entry by the arrival of a packet from this sender, or, if no sender is given, by
-- a broadcast.
abbrev pub GaveFrom : {N : Type 0} → List (Packet N) → Event → Entry → Option Origin → Type 0
GaveFrom {N} sent (Arrive place dice) entry (Some sender) =
    (number : ℕ) × (packet : Packet N) × (entry.packet ≡ Some number) × (slice_get sent number ≡ Some packet) × (packet.sender ≡ sender)
GaveFrom {N} sent (Broadcast name payload) entry None = Unit {0}
GaveFrom {N} sent event entry parent = ⊥

-- This run of the node delivered the message, which came from this parent, or, if no parent is given, from a broadcast.
abbrev pub IsParent : {N : Type 0} → List (Packet N) → List Entry → Origin → MsgId → Option Origin → Type 0
IsParent sent [] node id parent = ⊥
IsParent sent (entry ∷ past) node id parent = (HasDelivery entry.given node id × GaveFrom sent entry.event entry parent) ⊎ IsParent sent past node id parent

-- The name runs, and has delivered the message in the run that it is in. The log says so, and not what the core shows.
abbrev pub DeliveredAt : {C N : Type 0} → Group C N → List Entry → Name → MsgId → Type 0
DeliveredAt {C} group history name id =
    (node : NodeState C) × (core : C) × (node_of name group.nodes ≡ Some node) × (node.core ≡ Some core) × Delivered history (origin_of node) id

-- Wherever the run is undisturbed for a message and the group is at rest for it, every node in reach of its origin has
-- delivered it.
abbrev pub IsDeliveredInReach : {C N : Type 0} → (C → CoreState) → (N → Content) → ℕ → List Entry → Group C N → Type 0
IsDeliveredInReach state content keep history group =
    (id : MsgId) →
    IsUndisturbed state keep history group id →
    IsAtRest state content group id →
    (name : Name) →
    Reaches state group id.origin.name name →
    DeliveredAt group history name id
