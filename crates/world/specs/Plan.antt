-- What a plan for an event makes of a group.
use Rattle.std.specs.Prelude.{◌≡◌, ◌<◌, ℕ, List, [], ◌∷◌, ◌++◌, Option, Some, None, length, map, option_map, remove, slice_get}
use Rattle.std.specs.List.{position}
use Rattle.std.specs.Option.{ForSome}
use Rattle.node_names.specs.NodeName.{Name}
use Rattle.node_names.specs.Limits.{Limits}
use Rattle.node_names.specs.Same.{same_name}
use Rattle.node_names.specs.declared.dice.Dice.{Dice}
use Rattle.node_names.specs.declared.ids.Origin.{Origin}
use Rattle.protocol.specs.CoreState.{CoreState}
use Rattle.protocol.specs.Delivery.{Delivery}
use Rattle.protocol.specs.Lists.{places}
use Rattle.protocol.specs.Stimulus.{Stimulus}
use Rattle.protocol.specs.declared.stimulus.StimulusOf.TheVariants as stimulus
use Rattle.world.specs.Entry.{Entry}
use Rattle.world.specs.Event.{Event}
use Rattle.world.specs.Group.{Group, Logged, node_of, put_node}
use Rattle.world.specs.Refusals.{sent_under}
use Rattle.world.specs.Run.{Tells}
use Rattle.world.specs.declared.event.EventOf.TheVariants.{Start, Broadcast, Arrive, Lose, Again, Fire, Flush, Down, Shuffle, Join, Stop}
use Rattle.world.specs.declared.node_state.NodeState.{NodeState}
use Rattle.world.specs.declared.packet.Packet.{Packet}
use Rattle.world.specs.declared.plan.Plan.{Plan}
use Rattle.world.specs.declared.plan.Change.{Change}
use Rattle.world.specs.declared.plan.Change.TheVariants.{Nothing, Put, Step}

-- the flight without the packet at this place, if a place is given
abbrev pub staying : List ℕ → Option ℕ → List ℕ
staying flight None = flight
staying flight (Some place) = remove flight place

-- the numbers that are put into flight: that of the packet that flies once more, if one does, or else the newly sent
-- ones
abbrev pub launched : Option ℕ → ℕ → ℕ → List ℕ
launched None first count = places first count
launched (Some number) first count = number ∷ []

-- the nodes after this one is put among them, if one is given
abbrev pub nodes_after : {C : Type 0} → Option (NodeState C) → List (NodeState C) → List (NodeState C)
nodes_after None nodes = nodes
nodes_after (Some node) nodes = put_node node nodes

-- the group after a plan: with the node that is put, the packets that are sent, without the place that leaves the
-- flight, and with the packet that flies once more
abbrev pub group_after : {C N : Type 0} → Group C N → Option (NodeState C) → List (Packet N) → Option ℕ → Option ℕ → Group C N
group_after group node packets leaving again =
    record {
      nodes = nodes_after node group.nodes;
      sent = group.sent ++ packets;
      flight = staying group.flight leaving ++ launched again (length group.sent) (length packets);
    }

-- the names of the nodes, in their order
abbrev pub names_of : {C : Type 0} → List (NodeState C) → List Name
names_of nodes = map (λ node. node.name) nodes

-- the stimulus by which the packet arrives, if there is a packet
abbrev pub arrival : {N : Type 0} → Option (Packet N) → Dice → Option (Stimulus N)
arrival None dice = None
arrival (Some packet) dice = Some (stimulus.Arrive packet.sender packet.note dice)

-- the stimulus by which the event steps a core, if it steps one; for an arrival, by the packet that was sent under the
-- number
abbrev pub stimulus_by : {N : Type 0} → List (Packet N) → Event → Option ℕ → Option (Stimulus N)
stimulus_by sent (Broadcast name payload) number = Some (stimulus.Broadcast payload)
stimulus_by sent (Arrive place dice) number = arrival (sent_under sent number) dice
stimulus_by sent (Fire name id) number = Some (stimulus.Fire id)
stimulus_by sent (Flush name) number = Some stimulus.Flush
stimulus_by sent (Down name peer dice) number = Some (stimulus.Down peer dice)
stimulus_by sent (Shuffle name dice) number = Some (stimulus.Shuffle dice)
stimulus_by sent (Join name contact) number = Some (stimulus.Join contact)
stimulus_by sent (Start name incarnation peers contact) number = None
stimulus_by sent (Lose place) number = None
stimulus_by sent (Again other) number = None
stimulus_by sent (Stop name) number = None

-- the node after its core's step by the stimulus
abbrev pub stepped_node : {C N : Type 0} → (C → Stimulus N → C) → Option (NodeState C) → Option (Stimulus N) → Option (NodeState C)
stepped_node after None told = None
stepped_node after (Some node) None = None
stepped_node after (Some node) (Some told) = Some (record node { core = option_map (λ core. after core told) node.core })

-- the node that a change puts, as it is after the change
abbrev pub changed : {C N T A : Type 0} → (C → Stimulus N → C) → List (NodeState C) → List (Packet N) → Entry → Change C T A → Option (NodeState C)
changed after nodes sent entry Nothing = None
changed after nodes sent entry (Put node) = Some node.value
changed after nodes sent entry (Step at turn) = stepped_node after (slice_get nodes at) (stimulus_by sent entry.event entry.packet)

-- the group after the plan of this entry
abbrev pub planned : {C N T A : Type 0} → (C → Stimulus N → C) → Group C N → Entry → Change C T A → List (Packet N) → Option ℕ → Option ℕ → Group C N
planned after group entry change packets leaving again = group_after group (changed after group.nodes group.sent entry change) packets leaving again

-- Under the name runs the node at this place, with this core.
pub record RunsAt {C : Type 0} (name : Name) (nodes : List (NodeState C)) (at : ℕ) (node : NodeState C) (core : C) : Type 0 where
  pub known : node_of name nodes ≡ Some node
  pub there : slice_get nodes at ≡ Some node
  pub first : position (λ other. same_name node.name other.name) nodes ≡ Some at
  pub running : node.core ≡ Some core

-- The node at this place runs and is the first of its name, and its core can make the step that was prepared for the
-- entry.
pub record CanStep {C N T : Type 0} (is_turn : C → Stimulus N → T → Type 0)
    (nodes : List (NodeState C)) (sent : List (Packet N)) (entry : Entry) (at : ℕ) (turn : T) : Type 0 where
  pub node : NodeState C
  pub core : C
  pub told : Stimulus N
  pub there : slice_get nodes at ≡ Some node
  pub first : position (λ other. same_name node.name other.name) nodes ≡ Some at
  pub running : node.core ≡ Some core
  pub telling : stimulus_by sent entry.event entry.packet ≡ Some told
  pub turns : is_turn core told turn

-- The change can be made.
abbrev pub IsReady : {C N T A : Type 0} → (C → Stimulus N → T → Type 0) → List (NodeState C) → List (Packet N) → Entry → Change C T A → Type 0
IsReady is_turn nodes sent entry Nothing = Unit {0}
IsReady is_turn nodes sent entry (Put node) = Unit {0}
IsReady is_turn nodes sent entry (Step at turn) = CanStep is_turn nodes sent entry at turn

-- What a plan of an event is: what it says of the event is true of the group that it makes, the packet that leaves the
-- flight stands there, and the core that it steps can make its step.
pub record IsPlan
    {C N T A : Type 0}
    (state : C → CoreState)
    (starts : Origin → Limits → List Name → Option Name → List (Name × N) → C → Type 0)
    (steps : C → Stimulus N → List (Name × N) → List Delivery → C → Type 0)
    (after : C → Stimulus N → C)
    (is_turn : C → Stimulus N → T → Type 0)
    (world : Logged C N)
    (event : Event)
    (plan : Plan C A N T)
    : Type 0 where
  pub tells : Tells state starts steps world.limits event world.group plan.entry
      (planned after world.group plan.entry plan.change plan.packets.items plan.leaving plan.again)
  pub leaving : ForSome plan.leaving (λ place. place < length world.group.flight)
  pub ready : IsReady is_turn world.group.nodes world.group.sent plan.entry plan.change
