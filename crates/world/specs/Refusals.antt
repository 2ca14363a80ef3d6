-- When an event is refused, and how.
use Rattle.std.specs.Prelude.{◌≡◌, ◌⊎◌, ℕ, Bool, List, Option, Some, None, length, nat_lt, nat_le, slice_get, is_some, if◌then◌else◌}
use Rattle.node_names.specs.NodeName.{Name}
use Rattle.node_names.specs.Limits.{Limits}
use Rattle.node_names.specs.declared.ids.Incarnation.{Incarnation}
use Rattle.node_names.specs.declared.ids.Origin.{Origin}
use Rattle.protocol.specs.Peers.{are_peers}
use Rattle.protocol.specs.Stimulus.{Stimulus}
use Rattle.protocol.specs.declared.TheConstants.{MAX_PAYLOAD}
use Rattle.protocol.specs.declared.protocol.CoreError.{CoreError}
use Rattle.protocol.specs.declared.protocol.CoreError.TheVariants as core
use Rattle.protocol.specs.declared.stimulus.StimulusOf.TheVariants as stimulus
use Rattle.world.specs.Event.{Event}
use Rattle.world.specs.Group.{Group, node_of}
use Rattle.world.specs.declared.error.WorldError.{WorldError}
use Rattle.world.specs.declared.error.WorldError.TheVariants.{UnknownNode, NotRunning, StaleIncarnation, BadPeers}
use Rattle.world.specs.declared.error.WorldError.TheVariants.{NoPacket, PayloadTooLong, SeqSpent, OutOfMemory}
use Rattle.world.specs.declared.event.EventOf.TheVariants.{Start, Broadcast, Arrive, Lose, Again, Fire, Flush, Down, Shuffle, Join, Stop}
use Rattle.world.specs.declared.node_state.NodeState.{NodeState}
use Rattle.world.specs.declared.packet.Packet.{Packet}

-- the refusal of an event whose step a core refuses for this reason
abbrev pub IsRefusalOf : CoreError → WorldError → Type 0
IsRefusalOf core.PayloadTooLong e = e ≡ PayloadTooLong
IsRefusalOf core.SeqSpent e = e ≡ SeqSpent
IsRefusalOf core.OutOfMemory e = e ≡ OutOfMemory

-- the first of two refusals
abbrev pub first_of : Option WorldError → Option WorldError → Option WorldError
first_of (Some e) later = Some e
first_of None later = later

-- the refusal, unless the test holds
abbrev pub unless : Bool → WorldError → Option WorldError
unless holds e = if holds then None else Some e

-- the refusal for a node that has to run: it is unknown, or does not run
abbrev pub absent : {C : Type 0} → Option (NodeState C) → Option WorldError
absent None = Some UnknownNode
absent (Some node) = unless (is_some node.core) NotRunning

-- the refusal for a node that is to start: it was started before, and its last incarnation is not smaller
abbrev pub stale : {C : Type 0} → Option (NodeState C) → Incarnation → Option WorldError
stale None incarnation = None
stale (Some node) incarnation = unless (nat_lt node.highest.0 incarnation.0) (StaleIncarnation node.highest)

-- the refusal for a node that is to start under this origin, with these peers and this contact
abbrev pub start_refusal : {C N : Type 0} → Limits → Group C N → Origin → List Name → Option Name → Option WorldError
start_refusal limits group me peers contact =
    first_of (stale (node_of me.name group.nodes) me.incarnation) (unless (are_peers limits me.name peers contact) BadPeers)

-- the refusal for a packet that is to arrive: there is no such packet, or its receiver is unknown or does not run
abbrev pub undeliverable : {C N : Type 0} → Group C N → Option (Packet N) → Option WorldError
undeliverable group None = Some NoPacket
undeliverable group (Some packet) = absent (node_of packet.to group.nodes)

-- the packet that was sent under the number, if there is a number
abbrev pub sent_under : {N : Type 0} → List (Packet N) → Option ℕ → Option (Packet N)
sent_under sent None = None
sent_under sent (Some number) = slice_get sent number

-- the packet at the place in the flight
abbrev pub packet_at : {C N : Type 0} → Group C N → ℕ → Option (Packet N)
packet_at group place = sent_under group.sent (slice_get group.flight place)

-- the refusal that an event meets whatever the cores do: the first that applies, if one does
abbrev pub refusal : {C N : Type 0} → Limits → Group C N → Event → Option WorldError
refusal limits group (Start name incarnation peers contact) = start_refusal limits group (record { name = name; incarnation = incarnation }) peers contact
refusal limits group (Broadcast name payload) = first_of (absent (node_of name group.nodes)) (unless (nat_le (length payload) MAX_PAYLOAD) PayloadTooLong)
refusal limits group (Arrive place dice) = undeliverable group (packet_at group place)
refusal limits group (Lose place) = unless (is_some (slice_get group.flight place)) NoPacket
refusal limits group (Again number) = unless (is_some (slice_get group.sent number)) NoPacket
refusal limits group (Fire name id) = absent (node_of name group.nodes)
refusal limits group (Flush name) = absent (node_of name group.nodes)
refusal limits group (Down name peer dice) = absent (node_of name group.nodes)
refusal limits group (Shuffle name dice) = absent (node_of name group.nodes)
refusal limits group (Join name contact) = absent (node_of name group.nodes)
refusal limits group (Stop name) = absent (node_of name group.nodes)

module _ {C N : Type 0} (is_spent : C → Stimulus N → Type 0) (group : Group C N) where
  -- The core that runs under the name is out of numbers for the stimulus.
  pub record IsSpentAt (name : Name) (stimulus : Stimulus N) : Type 0 where
    pub node : NodeState C
    pub core : C
    pub known : node_of name group.nodes ≡ Some node
    pub running : node.core ≡ Some core
    pub spent : is_spent core stimulus

  -- The core that the event would step is out of numbers for it.
  abbrev pub IsSpentBy : Event → Type 0
  IsSpentBy (Start name incarnation peers contact) = ⊥
  IsSpentBy (Broadcast name payload) = IsSpentAt name (stimulus.Broadcast payload)
  IsSpentBy (Arrive place dice) =
      (packet : Packet N) × (packet_at group place ≡ Some packet) × IsSpentAt packet.to (stimulus.Arrive packet.sender packet.note dice)
  IsSpentBy (Lose place) = ⊥
  IsSpentBy (Again number) = ⊥
  IsSpentBy (Fire name id) = IsSpentAt name (stimulus.Fire id)
  IsSpentBy (Flush name) = IsSpentAt name stimulus.Flush
  IsSpentBy (Down name peer dice) = IsSpentAt name (stimulus.Down peer dice)
  IsSpentBy (Shuffle name dice) = IsSpentAt name (stimulus.Shuffle dice)
  IsSpentBy (Join name contact) = IsSpentAt name (stimulus.Join contact)
  IsSpentBy (Stop name) = ⊥

-- The event may be refused for this reason: it is the first refusal that applies, or, where none applies, a core's
-- numbers are spent or an allocation is refused.
abbrev pub IsRefusal : {C N : Type 0} → (C → Stimulus N → Type 0) → Limits → Group C N → Event → WorldError → Type 0
IsRefusal is_spent limits group event e =
    (refusal limits group event ≡ Some e) ⊎ ((refusal limits group event ≡ None) × ((e ≡ OutOfMemory) ⊎ ((e ≡ SeqSpent) × IsSpentBy is_spent group event)))
