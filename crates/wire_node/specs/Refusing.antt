-- Why a node of bytes refuses a call.
use Rattle.std.specs.Prelude.{◌≡◌, ◌≢◌, ◌≤◌, ◌⊎◌, ◌++◌, ⊤, ℕ, List, [], Err, Some, length, slice_get}
use Rattle.node_names.specs.NodeName.{Name}
use Rattle.node_names.specs.declared.dice.Dice.{Dice}
use Rattle.node_names.specs.declared.ids.MsgId.{MsgId}
use Rattle.protocol.specs.IdentityLaw.{IsTooLong}
use Rattle.protocol.specs.Stimulus.{Stimulus}
use Rattle.protocol.specs.declared.protocol.CoreError.{CoreError}
use Rattle.protocol.specs.declared.protocol.CoreError.TheVariants.{OutOfMemory as NoMemory, PayloadTooLong, SeqSpent}
use Rattle.protocol.specs.declared.stimulus.StimulusOf.TheVariants.{Arrive, Down, Fire, Flush, Shuffle}
use Rattle.frames.specs.Answer.{IsFaultOf}
use Rattle.frames.specs.Cutting.{Cuts}
use Rattle.frames.specs.Frame.{Frame}
use Rattle.frames.specs.Reading.{read}
use Rattle.frames.specs.declared.TheConstants.{MAX_FRAME}
use Rattle.frames.specs.declared.fault.FrameFault.{FrameFault}
use Rattle.frames.specs.declared.fault.FrameFault.TheVariants.{OutOfMemory as NoRoom, Short, TooLong}
use Rattle.frames.specs.declared.fault.FrameFault.TheVariants.{BadVersion, BadKind, BadName, BadField, BadCount, Trailing}
use Rattle.node_core.specs.Plum.{Plum}
use Rattle.node_core.specs.Steps.{PlumIsSpent}
use Rattle.wire_node.specs.Receiving.{Connection, IsPartial}
use Rattle.wire_node.specs.declared.error.WireError.{WireError}
use Rattle.wire_node.specs.declared.error.WireError.TheVariants.{BadPeers, Frame as NoFrame, NoConnection, OutOfMemory, Refused}

-- the refusal of a step, as a node of bytes says it
abbrev pub refusal_of : CoreError → WireError
refusal_of NoMemory = OutOfMemory
refusal_of PayloadTooLong = Refused PayloadTooLong
refusal_of SeqSpent = Refused SeqSpent

-- the refusal of bytes that are no frame, as a node of bytes says it
abbrev pub fault_of : FrameFault → WireError
fault_of NoRoom = OutOfMemory
fault_of Short = NoFrame Short
fault_of TooLong = NoFrame TooLong
fault_of BadVersion = NoFrame BadVersion
fault_of BadKind = NoFrame BadKind
fault_of BadName = NoFrame BadName
fault_of BadField = NoFrame BadField
fault_of BadCount = NoFrame BadCount
fault_of Trailing = NoFrame Trailing

-- The step was refused for this: its payload is too long, its numbers are used up, or an allocation was refused.
abbrev pub IsRefusal : Plum → Stimulus Frame → WireError → Type 0
IsRefusal core stimulus (Refused PayloadTooLong) = IsTooLong stimulus
IsRefusal core stimulus (Refused SeqSpent) = PlumIsSpent core stimulus
IsRefusal core stimulus (Refused NoMemory) = ⊥
IsRefusal core stimulus OutOfMemory = ⊤
IsRefusal core stimulus (NoFrame fault) = ⊥
IsRefusal core stimulus NoConnection = ⊥
IsRefusal core stimulus BadPeers = ⊥

-- Asking was refused for this: for memory, or with the step of a timer.
abbrev pub IsAskRefusal : Plum → WireError → Type 0
IsAskRefusal core error = (error ≡ OutOfMemory) ⊎ ((id : MsgId) × IsRefusal core (Fire id) error)

-- A tick was refused for this: with its flush, as it asked, or with its shuffle.
abbrev pub IsTickRefusal : Plum → Dice → WireError → Type 0
IsTickRefusal core dice error = IsRefusal core Flush error ⊎ (IsAskRefusal core error ⊎ IsRefusal core (Shuffle dice) error)

-- The bytes are no frame, and not the beginning of one, for this fault: their front has it, or is as long as frames may
-- be and is still no whole one.
pub record IsNoFrame (bytes : List ℕ) (fault : FrameFault) : Type 0 where
  pub front : List ℕ
  pub more : List ℕ
  pub parts : bytes ≡ front ++ more
  pub faulty : ((read front ≡ Err fault) × (fault ≢ Short)) ⊎ ((fault ≡ TooLong) × (MAX_FRAME ≤ length front) × IsPartial front)

-- A frame that begins the bytes came, and its step was refused for this.
pub record RefusesFrame (core : Plum) (bytes : List ℕ) (error : WireError) : Type 0 where
  pub frame : Frame
  pub dice : Dice
  pub after : List ℕ
  pub cuts : Cuts frame bytes after
  pub refused : IsRefusal core (Arrive frame.sender frame dice) error

-- The node stopped at these bytes for this, of which the first are what was left of a frame. Memory hides no fault,
-- unless it was refused for what was left of a frame.
abbrev pub IsStop : Plum → List ℕ → List ℕ → WireError → Type 0
IsStop core left bytes (Refused reason) = RefusesFrame core (left ++ bytes) (Refused reason)
IsStop core left bytes (NoFrame fault) = IsNoFrame (left ++ bytes) fault
IsStop core left bytes OutOfMemory = left ≡ [] → IsFaultOf NoRoom (read bytes) ⊎ IsPartial bytes
IsStop core left bytes NoConnection = ⊥
IsStop core left bytes BadPeers = ⊥

-- The peer of the connection of this number was not told as down for this.
pub record RefusesEnd (core : Plum) (links : List Connection) (number : ℕ) (dice : Dice) (error : WireError) : Type 0 where
  pub place : ℕ
  pub link : Connection
  pub name : Name
  pub at : slice_get links place ≡ Some link
  pub its_number : link.number ≡ number
  pub its_peer : link.peer ≡ Some name
  pub refused : IsRefusal core (Down name dice) error
