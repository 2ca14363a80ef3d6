-- Why a start or a stimulus is refused.
use Rattle.std.specs.Prelude.{◌≡◌, ◌≢◌, ◌≤◌, ◌⊎◌, ℕ, Bool, true, false, List, Option, Some, None, is_some}
use Rattle.std.specs.Map.{lookup}
use Rattle.node_names.specs.NodeName.{Name}
use Rattle.node_names.specs.Same.{same_name}
use Rattle.node_names.specs.declared.ids.Origin.{Origin}
use Rattle.protocol.specs.IdentityLaw.{IsTooLong}
use Rattle.protocol.specs.Peers.{are_peers}
use Rattle.protocol.specs.Stimulus.{Stimulus}
use Rattle.protocol.specs.declared.protocol.CoreError.{CoreError}
use Rattle.protocol.specs.declared.protocol.CoreError.TheVariants as core
use Rattle.protocol.specs.declared.stimulus.StimulusOf.TheVariants as stimulus
use Rattle.world.specs.declared.node_state.NodeState.{NodeState}
use Rattle.world.specs.declared.packet.Packet.{Packet}
use Rattle.frames.specs.Frame.{Frame}
use Rattle.run_check.specs.Following.{Kept, packet_of}
use Rattle.run_check.specs.declared.error.CheckError.{CheckError}
use Rattle.run_check.specs.declared.error.CheckError.TheVariants.{Stale, BadPeers, NotRunning, Unsent, Unlike, Refused, OutOfMemory}
use Rattle.run_check.specs.declared.frame_id.FrameId.{FrameId}

-- whether a packet is kept for the frame that arrives, or none arrives
abbrev pub has_packet : List (FrameId × Packet Frame) → Stimulus Frame → Bool
has_packet packets (stimulus.Arrive sender note dice) = is_some (packet_of packets sender note.number)
has_packet packets (stimulus.Broadcast payload) = true
has_packet packets (stimulus.Fire id) = true
has_packet packets stimulus.Flush = true
has_packet packets (stimulus.Down peer dice) = true
has_packet packets (stimulus.Shuffle dice) = true
has_packet packets (stimulus.Join contact) = true

-- The run is the last of its name that was started, and this is its core.
pub record RunsAs {C : Type 0} (nodes : List (Name × NodeState C)) (run : Origin) (running : C) : Type 0 where
  pub node : NodeState C
  pub known : lookup (same_name run.name) nodes ≡ Some node
  pub is_run : node.highest ≡ run.incarnation
  pub its : node.core ≡ Some running

-- The packet cannot be taken out: none is kept for its frame, or another one is.
abbrev pub IsNotThere : List (FrameId × Packet Frame) → Packet Frame → CheckError → Type 0
IsNotThere packets packet (Unsent sender number) = (sender ≡ packet.sender) × (number ≡ packet.note.number) × (packet_of packets sender number ≡ None)
IsNotThere packets packet (Unlike sender number) =
    (sender ≡ packet.sender) × (number ≡ packet.note.number) × ((kept : Packet Frame) × (packet_of packets sender number ≡ Some kept) × (kept ≢ packet))
IsNotThere packets packet (Stale highest) = ⊥
IsNotThere packets packet BadPeers = ⊥
IsNotThere packets packet NotRunning = ⊥
IsNotThere packets packet (Refused error) = ⊥
IsNotThere packets packet OutOfMemory = ⊥

-- The packet that is to arrive at the name cannot be taken out.
abbrev pub IsUnreceived : List (FrameId × Packet Frame) → Name → Stimulus Frame → CheckError → Type 0
IsUnreceived packets name (stimulus.Arrive sender note dice) e = IsNotThere packets (record { sender = sender; to = name; note = note }) e
IsUnreceived packets name (stimulus.Broadcast payload) e = ⊥
IsUnreceived packets name (stimulus.Fire id) e = ⊥
IsUnreceived packets name stimulus.Flush e = ⊥
IsUnreceived packets name (stimulus.Down peer dice) e = ⊥
IsUnreceived packets name (stimulus.Shuffle dice) e = ⊥
IsUnreceived packets name (stimulus.Join contact) e = ⊥

-- the refusal for one of a core
abbrev pub refusal_of : CoreError → CheckError
refusal_of core.PayloadTooLong = Refused core.PayloadTooLong
refusal_of core.SeqSpent = Refused core.SeqSpent
refusal_of core.OutOfMemory = OutOfMemory

-- A core refuses the stimulus so.
abbrev pub IsCoreRefusal : {C : Type 0} → (C → Stimulus Frame → Type 0) → C → Stimulus Frame → CheckError → Type 0
IsCoreRefusal is_spent running told (Refused core.PayloadTooLong) = IsTooLong told
IsCoreRefusal is_spent running told (Refused core.SeqSpent) = is_spent running told
IsCoreRefusal is_spent running told (Refused core.OutOfMemory) = ⊥
IsCoreRefusal is_spent running told (Stale highest) = ⊥
IsCoreRefusal is_spent running told BadPeers = ⊥
IsCoreRefusal is_spent running told NotRunning = ⊥
IsCoreRefusal is_spent running told (Unsent sender number) = ⊥
IsCoreRefusal is_spent running told (Unlike sender number) = ⊥
IsCoreRefusal is_spent running told OutOfMemory = Unit {0}

-- The run does not run, or its core refuses the stimulus.
abbrev pub IsNoStep : {C : Type 0} → (C → Stimulus Frame → Type 0) → List (Name × NodeState C) → Origin → Stimulus Frame → CheckError → Type 0
IsNoStep {C} is_spent nodes run told e =
    ((e ≡ NotRunning) × ((running : C) → RunsAs nodes run running → ⊥)) ⊎ ((running : C) × RunsAs nodes run running × IsCoreRefusal is_spent running told e)

-- The run was started before, or a later one of its name.
abbrev pub IsStale : {C : Type 0} → List (Name × NodeState C) → Origin → CheckError → Type 0
IsStale {C} nodes run e =
    (node : NodeState C) × (lookup (same_name run.name) nodes ≡ Some node) × (run.incarnation.0 ≤ node.highest.0) × (e ≡ Stale node.highest)

-- The start of this run is refused so.
abbrev pub IsNoStart : {C : Type 0} → Kept C → Origin → List Name → Option Name → CheckError → Type 0
IsNoStart kept run peers contact e = IsStale kept.nodes run e ⊎ ((e ≡ BadPeers) × (are_peers kept.limits run.name peers contact ≡ false)) ⊎ (e ≡ OutOfMemory)

-- That the run takes the stimulus is refused so.
abbrev pub IsRefused : {C : Type 0} → (C → Stimulus Frame → Type 0) → Kept C → Origin → Stimulus Frame → CheckError → Type 0
IsRefused is_spent kept run told e = IsUnreceived kept.packets run.name told e ⊎ IsNoStep is_spent kept.nodes run told e ⊎ (e ≡ OutOfMemory)
