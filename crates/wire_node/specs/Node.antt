-- A node of bytes, and what its calls do to it.
use Rattle.std.specs.Prelude.{◌≡◌, ◌+◌, ◌%◌, ◌^◌, ◌&&◌, ◌||◌, ◌⊎◌, ℕ, Bool, false, IsTrue, List, [], Option, None, Some}
use Rattle.std.specs.Prelude.{MatchBool, drop, filter, length, nat_eq, nat_lt, not, position, slice_get, slice_set}
use Rattle.std.specs.List.{list_any}
use Rattle.node_names.specs.NodeName.{Name}
use Rattle.node_names.specs.Limits.{Limits}
use Rattle.node_names.specs.Same.{has_name, same_name}
use Rattle.node_names.specs.declared.dice.Dice.{Dice}
use Rattle.node_names.specs.declared.ids.Origin.{Origin}
use Rattle.protocol.specs.Output.{Output}
use Rattle.protocol.specs.Peers.{are_peers}
use Rattle.frames.specs.Frame.{Frame}
use Rattle.node_core.specs.Plum.{plum_state}
use Rattle.node_core.specs.Steps.{PlumStarts}
use Rattle.wire_node.specs.Moving.{Engine, GoesAway}
use Rattle.wire_node.specs.Receiving.{Connection, Draws, Receives, after_one}
use Rattle.wire_node.specs.Recording.{Noted, opened}
use Rattle.wire_node.specs.Refusing.{IsStop}
use Rattle.wire_node.specs.Ticking.{Asking, TickSteps}
use Rattle.wire_node.specs.Waiting.{mail_for, settled_for}
use Rattle.wire_node.specs.declared.connections.ReceiveError.{ReceiveError}

-- The core with what its steps left; the connections; the number of the last connection that was accepted, 0 if none
-- was; how many ticks were made; and what it is to ask for.
pub record NodeState : Type 0 where
  pub engine : Engine
  pub connections : List Connection
  pub numbered : ℕ
  pub ticks : ℕ
  pub asking : Asking

-- The node started with allowed peers, what its start sends waits for its receivers, and its opening is noted. This many
-- bytes may wait for a name.
pub record Starts (me : Origin) (limits : Limits) (waiting : ℕ) (peers : List Name)
    (contact : Option Name) (noted : Option Noted) (node : NodeState) : Type 0 where
  pub allowed : IsTrue (are_peers limits me.name peers contact)
  pub opening : Output Frame
  pub started : PlumStarts me limits peers contact opening.sends node.engine.machine.core
  pub nothing : opening.deliveries ≡ []
  pub waits : (name : Name) → settled_for node.engine.machine.waiting name ≡ mail_for opening.sends name
  pub delivered : node.engine.machine.pending ≡ []
  pub notes : node.engine.machine.noted ≡ opened noted opening
  pub news : node.engine.machine.news ≡ []
  pub tells : node.engine.machine.tells ≡ false
  pub lost : node.engine.lost ≡ []
  pub limit : node.engine.limit ≡ waiting
  pub is_behind : node.engine.is_behind ≡ false
  pub connections : node.connections ≡ []
  pub numbered : node.numbered ≡ 0
  pub ticks : node.ticks ≡ 0
  pub asking : node.asking ≡ record { waited = []; due = []; asked = [] }

-- No connection has this number.
abbrev pub HasNone : List Connection → ℕ → Type 0
HasNone links number = position (λ (link : Connection). nat_eq link.number number) links ≡ None

-- The bytes came over the connection of this number: the whole frames of the first `count` were taken, and what was no
-- whole frame yet is kept. The others were not looked at, and nothing else changed.
pub record Hears (old : NodeState) (number : ℕ) (bytes : List ℕ) (draws : Draws) (count : ℕ) (new : NodeState) (draws' : Draws) : Type 0 where
  pub place : ℕ
  pub link : Connection
  pub link' : Connection
  pub at : slice_get old.connections place ≡ Some link
  pub its_number : link.number ≡ number
  pub receives : Receives old.engine link bytes draws count new.engine link' draws'
  pub connections : new.connections ≡ slice_set old.connections place link'
  pub numbered : new.numbered ≡ old.numbered
  pub ticks : new.ticks ≡ old.ticks
  pub asking : new.asking ≡ old.asking

-- Only the first of the bytes were heard, for this reason. For a frame that was refused dice may have been drawn too.
pub record HearsFirst (old : NodeState) (number : ℕ) (bytes : List ℕ) (draws : Draws) (failed : ReceiveError) (new : NodeState) (draws' : Draws) : Type 0 where
  pub dealt : Draws
  pub hears : Hears old number bytes draws failed.taken new dealt
  pub drawn : (draws' ≡ dealt) ⊎ (draws' ≡ after_one dealt)
  pub why : IsStop new.engine.machine.core hears.link'.left (drop failed.taken bytes) failed.error

-- A tick was made, and counted: the count goes from 2 ^ 64 - 1 to 0.
pub record Ticks (old : NodeState) (dice : Dice) (new : NodeState) : Type 0 where
  pub steps : TickSteps old.engine old.asking new.ticks dice new.engine new.asking
  pub counted : new.ticks ≡ (old.ticks + 1) % 2 ^ 64
  pub connections : new.connections ≡ old.connections
  pub numbered : new.numbered ≡ old.numbered

-- whether the name may go down: the core keeps a link to it, or bytes wait for it
abbrev pub is_up : Engine → Name → Bool
is_up engine name = has_name (plum_state engine.machine.core).active name || nat_lt 0 (length (settled_for engine.machine.waiting name))

-- whether a connection has this peer
abbrev pub has_peer : Option Name → Name → Bool
has_peer None name = false
has_peer (Some peer) name = same_name peer name

-- whether a connection of another number has this peer
abbrev pub has_other : List Connection → ℕ → Name → Bool
has_other links number name = list_any (λ (link : Connection). not (nat_eq link.number number) && has_peer link.peer name) links

-- The peer of the connection of this number, if it has one, went down where it was up and has no other connection. Else
-- nothing changed.
abbrev pub EndsPeer : Engine → List Connection → ℕ → Option Name → Dice → Engine → Type 0
EndsPeer old links number None dice new = new ≡ old
EndsPeer old links number (Some name) dice new = MatchBool (is_up old name && not (has_other links number name)) (GoesAway old name dice new) (new ≡ old)

-- The connection of this number is gone, with what was no whole frame, and its peer may have gone down.
pub record Closes (old : NodeState) (number : ℕ) (dice : Dice) (new : NodeState) : Type 0 where
  pub place : ℕ
  pub link : Connection
  pub at : slice_get old.connections place ≡ Some link
  pub its_number : link.number ≡ number
  pub downs : EndsPeer old.engine old.connections number link.peer dice new.engine
  pub connections : new.connections ≡ filter (λ (other : Connection). not (nat_eq other.number number)) old.connections
  pub numbered : new.numbered ≡ old.numbered
  pub ticks : new.ticks ≡ old.ticks
  pub asking : new.asking ≡ old.asking
