-- A group that is followed step by step: its nodes as they are now, and the packets that may still arrive.
use Rattle.std.specs.Prelude.{◌≡◌, ◌<◌, ◌↔◌, ℕ, Bool, false, List, [], ◌∷◌, Option, Some, None, IfSome, IsTrue, slice_get, if◌then◌else◌}
use Rattle.std.specs.Map.{lookup}
use Rattle.node_names.specs.NodeName.{Name}
use Rattle.node_names.specs.Limits.{Limits}
use Rattle.node_names.specs.Same.{same_name}
use Rattle.node_names.specs.declared.ids.Origin.{Origin}
use Rattle.protocol.specs.CoreState.{CoreState}
use Rattle.protocol.specs.Delivery.{Delivery}
use Rattle.protocol.specs.Lists.{IsOneOf}
use Rattle.protocol.specs.Peers.{are_peers}
use Rattle.protocol.specs.SameNames.{SameNames}
use Rattle.protocol.specs.Stimulus.{Stimulus}
use Rattle.protocol.specs.declared.stimulus.StimulusOf.TheVariants as stimulus
use Rattle.world.specs.Entry.{Entry}
use Rattle.world.specs.Event.{Event}
use Rattle.world.specs.Group.{Group, node_of, packets}
use Rattle.world.specs.Plan.{stimulus_by}
use Rattle.world.specs.Run.{Happens, Run}
use Rattle.world.specs.declared.event.EventOf.TheVariants.{Broadcast, Arrive, Fire, Flush, Down, Shuffle, Join}
use Rattle.world.specs.declared.node_state.NodeState.{NodeState}
use Rattle.world.specs.declared.packet.Packet.{Packet}
use Rattle.frames.specs.Frame.{Frame}
use Rattle.run_check.specs.FrameIds.{id_of, same_frame_id}
use Rattle.run_check.specs.declared.frame_id.FrameId.{FrameId}

-- The limits of the nodes; the nodes, each under its name; and packets, each under the id of its frame.
pub record Kept (C : Type 0) : Type 0 where
  pub limits : Limits
  pub nodes : List (Name × NodeState C)
  pub packets : List (FrameId × Packet Frame)

-- The packet was sent in the group, and is in flight.
pub record Flies {C : Type 0} (group : Group C Frame) (packet : Packet Frame) : Type 0 where
  pub number : ℕ
  pub flying : IsOneOf number group.flight
  pub sent : slice_get group.sent number ≡ Some packet

-- The nodes are those of the group.
abbrev pub AreNodes : {C : Type 0} → Group C Frame → List (Name × NodeState C) → Type 0
AreNodes group nodes = (name : Name) → lookup (same_name name) nodes ≡ node_of name group.nodes

-- Each of the packets is in flight in the group, and has its frame's id.
abbrev pub AreFlying : {C : Type 0} → Group C Frame → List (FrameId × Packet Frame) → Type 0
AreFlying group kept = (id : FrameId) (packet : Packet Frame) → lookup (same_frame_id id) kept ≡ Some packet → Flies group packet × (id_of packet ≡ id)

-- One node takes the place of the one of its name.
abbrev pub Puts : {C : Type 0} → List (Name × NodeState C) → NodeState C → List (Name × NodeState C) → Type 0
Puts old node new = (name : Name) → lookup (same_name name) new ≡ (if same_name node.name name then Some node else lookup (same_name name) old)

-- the last of these packets whose frame has this id, or what was there before where none has
abbrev pub last_of : FrameId → Option (Packet Frame) → List (Packet Frame) → Option (Packet Frame)
last_of id before [] = before
last_of id before (packet ∷ more) = last_of id (if same_frame_id (id_of packet) id then Some packet else before) more

-- What is kept later is what was kept before and all of these packets, each under its frame's id.
abbrev pub Posts : List (FrameId × Packet Frame) → List (Packet Frame) → List (FrameId × Packet Frame) → Type 0
Posts old more new = (id : FrameId) → lookup (same_frame_id id) new ≡ last_of id (lookup (same_frame_id id) old) more

-- the packet that is kept for the frame of this number of the sender
abbrev pub packet_of : List (FrameId × Packet Frame) → Origin → ℕ → Option (Packet Frame)
packet_of packets sender number = lookup (same_frame_id (record { sender = sender; number = number })) packets

-- The packet that is to arrive at the name, if one is, is kept.
abbrev pub IsAwaited : List (FrameId × Packet Frame) → Name → Stimulus Frame → Type 0
IsAwaited packets name (stimulus.Arrive sender note dice) = packet_of packets sender note.number ≡ Some (record { sender = sender; to = name; note = note })
IsAwaited packets name (stimulus.Broadcast payload) = Unit {0}
IsAwaited packets name (stimulus.Fire id) = Unit {0}
IsAwaited packets name stimulus.Flush = Unit {0}
IsAwaited packets name (stimulus.Down peer dice) = Unit {0}
IsAwaited packets name (stimulus.Shuffle dice) = Unit {0}
IsAwaited packets name (stimulus.Join contact) = Unit {0}

-- the id of the frame that arrives by the stimulus, if one does
abbrev pub arriving : Stimulus Frame → Option FrameId
arriving (stimulus.Arrive sender note dice) = Some (record { sender = sender; number = note.number })
arriving (stimulus.Broadcast payload) = None
arriving (stimulus.Fire id) = None
arriving stimulus.Flush = None
arriving (stimulus.Down peer dice) = None
arriving (stimulus.Shuffle dice) = None
arriving (stimulus.Join contact) = None

-- The packet of this id, if there is one, is kept no longer, and all others are.
abbrev pub Loses : List (FrameId × Packet Frame) → Option FrameId → List (FrameId × Packet Frame) → Type 0
Loses old None new = new ≡ old
Loses old (Some gone) new = (id : FrameId) → lookup (same_frame_id id) new ≡ (if same_frame_id gone id then None else lookup (same_frame_id id) old)

-- What arrives by the stimulus is kept no longer, and all else is.
abbrev pub Leaves : List (FrameId × Packet Frame) → Stimulus Frame → List (FrameId × Packet Frame) → Type 0
Leaves old told new = Loses old (arriving told) new

-- the event that gives the core of this name the stimulus, where a packet that arrives stands at this place in flight
abbrev pub event_of : Name → ℕ → Stimulus Frame → Event
event_of name place (stimulus.Arrive sender note dice) = Arrive place dice
event_of name place (stimulus.Broadcast payload) = Broadcast name payload
event_of name place (stimulus.Fire id) = Fire name id
event_of name place stimulus.Flush = Flush name
event_of name place (stimulus.Down peer dice) = Down name peer dice
event_of name place (stimulus.Shuffle dice) = Shuffle name dice
event_of name place (stimulus.Join contact) = Join name contact

module _
    {C : Type 0}
    (state : C → CoreState)
    (starts : Origin → Limits → List Name → Option Name → List (Name × Frame) → C → Type 0)
    (steps : C → Stimulus Frame → List (Name × Frame) → List Delivery → C → Type 0)
  where
    -- The core of the run takes the stimulus, sends and delivers this, and is put in its node's place.
    pub record Steps (old : List (Name × NodeState C)) (run : Origin) (told : Stimulus Frame)
        (sends : List (Name × Frame)) (given : List Delivery) (moved : Bool) (new : List (Name × NodeState C)) : Type 0 where
      pub node : NodeState C
      pub before : C
      pub after : C
      pub known : lookup (same_name run.name) old ≡ Some node
      pub is_run : node.highest ≡ run.incarnation
      pub running : node.core ≡ Some before
      pub stepped : steps before told sends given after
      pub moves : (moved ≡ false) ↔ SameNames (state before).active (state after).active
      pub puts : (name : Name) →
          lookup (same_name name) new ≡ (if same_name run.name name then Some (record node { core = Some after }) else lookup (same_name name) old)

    -- The run starts under an incarnation above that of its name's last start. Its core takes the place of its name, and
    -- all that it sends is kept besides what was.
    pub record Begins (old : Kept C) (run : Origin) (peers : List Name) (contact : Option Name) (new : Kept C) : Type 0 where
      pub core : C
      pub sends : List (Name × Frame)
      pub fresh : IfSome (lookup (same_name run.name) old.nodes) (λ node. node.highest.0 < run.incarnation.0)
      pub fit : IsTrue (are_peers old.limits run.name peers contact)
      pub started : starts run old.limits peers contact sends core
      pub limits : new.limits ≡ old.limits
      pub nodes : Puts old.nodes (record { name = run.name; highest = run.incarnation; core = Some core }) new.nodes
      pub packets : Posts old.packets (packets run sends) new.packets

    -- The core of the run takes the stimulus and delivers this. What arrives is kept no longer, and all that the core sends
    -- is kept besides what was.
    pub record Goes (old : Kept C) (run : Origin) (told : Stimulus Frame) (given : List Delivery) (new : Kept C) : Type 0 where
      pub sends : List (Name × Frame)
      pub moved : Bool
      pub left : List (FrameId × Packet Frame)
      pub awaited : IsAwaited old.packets run.name told
      pub leaves : Leaves old.packets told left
      pub stepped : Steps old.nodes run told sends given moved new.nodes
      pub limits : new.limits ≡ old.limits
      pub packets : Posts left (packets run sends) new.packets

    -- The history, newest first, is a run of a group whose nodes are kept, with packets that are in flight in it.
    pub record Follows (kept : Kept C) (past : List Entry) (group : Group C Frame) : Type 0 where
      pub ran : Run state starts steps kept.limits past group
      pub nodes : AreNodes group kept.nodes
      pub flying : AreFlying group kept.packets

    -- The run goes on by one event.
    pub record GoesOn (group : Group C Frame) (past : List Entry) (entry : Entry) (new : Kept C) : Type 0 where
      pub after : Group C Frame
      pub happened : Happens state starts steps new.limits group entry after
      pub follows : Follows new (entry ∷ past) after

    -- The run goes on by the event that gives the core of the name this stimulus, and delivers this.
    pub record TakesOn (group : Group C Frame) (past : List Entry) (name : Name) (told : Stimulus Frame) (given : List Delivery) (new : Kept C) : Type 0 where
      pub entry : Entry
      pub place : ℕ
      pub is_event : entry.event ≡ event_of name place told
      pub tells : stimulus_by group.sent entry.event entry.packet ≡ Some told
      pub gave : entry.given ≡ given
      pub goes_on : GoesOn group past entry new
