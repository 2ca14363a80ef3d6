-- What a node for C is, and what its calls do to it.
use Rattle.std.specs.Prelude.{◌≡◌, ◌≢◌, ◌⊎◌, ◌+◌, ◌%◌, ◌^◌, ℕ, List, [], ◌∷◌, length, map, take, slice_get, Option, Some}
use Rattle.node_names.specs.NodeName.{Name}
use Rattle.node_names.specs.Limits.{Limits}
use Rattle.node_names.specs.declared.dice.Dice.{Dice}
use Rattle.node_names.specs.declared.ids.MsgId.{MsgId}
use Rattle.node_names.specs.declared.ids.Origin.{Origin}
use Rattle.protocol.specs.Delivery.{Delivery}
use Rattle.protocol.specs.Output.{Output, Stepped}
use Rattle.protocol.specs.Stimulus.{Stimulus}
use Rattle.protocol.specs.declared.stimulus.StimulusOf.TheVariants.{Arrive, Broadcast, Fire, Flush, Shuffle}
use Rattle.frames.specs.Frame.{Frame}
use Rattle.frames.specs.Grammar.{IsSpelling}
use Rattle.node_core.specs.Plum.{Plum, plum_state}
use Rattle.plumtree_c.specs.declared.plain.Counts.{Counts}
use Rattle.node_core.specs.Steps.{PlumStarts, PlumSteps}

-- The core, the frames and the deliveries that wait to be taken, and how many ticks were made.
pub record NodeState : Type 0 where
  pub core : Plum
  pub out : Output Frame
  pub ticks : ℕ

-- The node started, and what its start sends waits.
pub record Starts (me : Origin) (limits : Limits) (peers : List Name) (contact : Option Name) (node : NodeState) : Type 0 where
  pub started : PlumStarts me limits peers contact node.out.sends node.core
  pub delivered : node.out.deliveries ≡ []
  pub no_ticks : node.ticks ≡ 0

-- The core made one step, and what it sends and delivers waits behind what waited before.
pub record Steps (old : NodeState) (stimulus : Stimulus Frame) (new : NodeState) : Type 0 where
  pub stepped : Stepped PlumSteps old.core stimulus old.out new.core new.out
  pub ticks : new.ticks ≡ old.ticks

-- The node broadcast a message, and this is its number.
pub record Broadcasts (old : NodeState) (payload : List ℕ) (number : ℕ) (new : NodeState) : Type 0 where
  pub steps : Steps old (Broadcast payload) new
  pub next : number ≡ old.core.gossip.spent + 1

-- The timer at this place of the armed ones fired.
pub record FiresAt (place : ℕ) (old new : NodeState) : Type 0 where
  pub id : MsgId
  pub armed : slice_get old.core.gossip.missing.timers place ≡ Some id
  pub steps : Steps old (Fire id) new

-- The node took the frame that the first of the bytes spell.
pub record Hears (old : NodeState) (bytes : List ℕ) (taken : ℕ) (dice : Dice) (new : NodeState) : Type 0 where
  pub frame : Frame
  pub spelled : IsSpelling frame (take taken bytes)
  pub steps : Steps old (Arrive frame.sender frame dice) new

-- The first frame that waited was taken: the receiver's name and the frame's bytes.
pub record Sent (old : NodeState) (to : Name) (bytes : List ℕ) (new : NodeState) : Type 0 where
  pub receiver : Name
  pub frame : Frame
  pub first : old.out.sends ≡ (receiver, frame) ∷ new.out.sends
  pub its_receiver : receiver ≡ to
  pub spelled : IsSpelling frame bytes
  pub core : new.core ≡ old.core
  pub deliveries : new.out.deliveries ≡ old.out.deliveries
  pub ticks : new.ticks ≡ old.ticks

-- The first of these deliveries was taken: the message's id and payload.
pub record Gives (old : List Delivery) (id : MsgId) (payload : List ℕ) (new : List Delivery) : Type 0 where
  pub delivery : Delivery
  pub first : old ≡ delivery ∷ new
  pub its_id : delivery.id ≡ id
  pub its_payload : delivery.payload ≡ payload

-- The first delivery that waited was taken: the message's id and payload.
pub record Given (old : NodeState) (id : MsgId) (payload : List ℕ) (new : NodeState) : Type 0 where
  pub gives : Gives old.out.deliveries id payload new.out.deliveries
  pub core : new.core ≡ old.core
  pub sends : new.out.sends ≡ old.out.sends
  pub ticks : new.ticks ≡ old.ticks

-- The core made these steps, one after the other.
abbrev pub Runs : NodeState → List (Stimulus Frame) → NodeState → Type 0
Runs old [] new = old ≡ new
Runs old (stimulus ∷ stimuli) new = (mid : NodeState) × Steps old stimulus mid × Runs mid stimuli new

-- A tick was made and counted, where the count goes from 2 ^ 64 - 1 to 0: all that was queued was sent, each timer that
-- was armed fired, and at a tenth tick the passive view was shuffled.
pub record Ticks (old : NodeState) (dice : Dice) (new : NodeState) : Type 0 where
  pub flushed : NodeState
  pub fired : NodeState
  pub flushes : Steps old Flush flushed
  pub fires : Runs flushed (map Fire flushed.core.gossip.missing.timers) fired
  pub counted : new.ticks ≡ (old.ticks + 1) % 2 ^ 64
  pub shuffles : new.ticks % 10 ≡ 0 → Steps fired (Shuffle dice) (record new { ticks = fired.ticks })
  pub stays : new.ticks % 10 ≢ 0 → new ≡ record fired { ticks = new.ticks }

-- Of a tick these steps were made: all that was queued was sent, and the first `count` of the timers that were armed
-- fired. It was not counted.
pub record Begins (old new : NodeState) : Type 0 where
  pub flushed : NodeState
  pub count : ℕ
  pub flushes : Steps old Flush flushed
  pub fires : Runs flushed (map Fire (take count flushed.core.gossip.missing.timers)) new

-- A tick was refused: none of its steps was made, or the first of them.
abbrev pub IsCutShort : NodeState → NodeState → Type 0
IsCutShort old new = (new ≡ old) ⊎ Begins old new

-- These are how much the node has.
pub record AreCounts (counts : Counts) (node : NodeState) : Type 0 where
  pub held : counts.held ≡ length (plum_state node.core).held
  pub missing : counts.missing ≡ length (plum_state node.core).timers
  pub wants : counts.wants ≡ length (plum_state node.core).wants
  pub queued : counts.queued ≡ length (plum_state node.core).queued
  pub sends : counts.sends ≡ length node.out.sends
  pub deliveries : counts.deliveries ≡ length node.out.deliveries
