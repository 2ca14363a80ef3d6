-- What a check accepts from its beginning on, as one run of a group.
use Rattle.std.specs.Prelude.{◌≡◌, ℕ, List, [], ◌∷◌, Option, Some, reverse, slice_get}
use Rattle.std.specs.Map.{lookup}
use Rattle.node_names.specs.NodeName.{Name}
use Rattle.node_names.specs.Limits.{Limits}
use Rattle.node_names.specs.declared.ids.Origin.{Origin}
use Rattle.protocol.specs.CoreState.{CoreState}
use Rattle.protocol.specs.Delivery.{Delivery}
use Rattle.protocol.specs.Lists.{IsOneOf}
use Rattle.protocol.specs.Stimulus.{Stimulus}
use Rattle.protocol.specs.declared.stimulus.StimulusOf.TheVariants as stimulus
use Rattle.world.specs.Entry.{Entry}
use Rattle.world.specs.Group.{Group}
use Rattle.world.specs.History.{incarnation_of}
use Rattle.world.specs.Refusals.{sent_under}
use Rattle.world.specs.declared.event.EventOf.TheVariants.{Start}
use Rattle.world.specs.declared.packet.Packet.{Packet}
use Rattle.frames.specs.Frame.{Frame}
use Rattle.run_check.specs.Following.{Begins, Follows, Goes, Kept, event_of}
use Rattle.run_check.specs.FrameIds.{id_of, same_frame_id}
use Rattle.run_check.specs.declared.frame_id.FrameId.{FrameId}

-- What a check accepts: that a run starts with these peers and this contact, or that a run takes a stimulus and delivers
-- this.
pub data Accepted : Type 0 where
  started : Origin → List Name → Option Name → Accepted
  took : Origin → Stimulus Frame → List Delivery → Accepted

-- No two packets were sent under one frame id.
abbrev pub AreNumbered : List (Packet Frame) → Type 0
AreNumbered sent = (i j : ℕ) (one other : Packet Frame) → slice_get sent i ≡ Some one → slice_get sent j ≡ Some other → id_of one ≡ id_of other → i ≡ j

-- Each packet that is in flight in the group is kept, under its frame's id.
abbrev pub AreKept : {C : Type 0} → Group C Frame → List (FrameId × Packet Frame) → Type 0
AreKept group kept =
    (number : ℕ) (packet : Packet Frame) →
    IsOneOf number group.flight →
    slice_get group.sent number ≡ Some packet →
    lookup (same_frame_id (id_of packet)) kept ≡ Some packet

-- The packet of this number, if the stimulus is an arrival, was sent by the sender to the name, with that content.
abbrev pub ArrivesBy : List (Packet Frame) → Name → Stimulus Frame → Option ℕ → Type 0
ArrivesBy sent name (stimulus.Arrive sender note dice) number = sent_under sent number ≡ Some (record { sender = sender; to = name; note = note })
ArrivesBy sent name (stimulus.Broadcast payload) number = Unit {0}
ArrivesBy sent name (stimulus.Fire id) number = Unit {0}
ArrivesBy sent name stimulus.Flush number = Unit {0}
ArrivesBy sent name (stimulus.Down peer dice) number = Unit {0}
ArrivesBy sent name (stimulus.Shuffle dice) number = Unit {0}
ArrivesBy sent name (stimulus.Join contact) number = Unit {0}

-- After this past the entry is that of the run's step at the stimulus: the run is the last of its name that was started.
pub record IsStepOf (sent : List (Packet Frame)) (past : List Entry) (run : Origin) (told : Stimulus Frame) (given : List Delivery) (entry : Entry) :
    Type 0 where
  pub place : ℕ
  pub event : entry.event ≡ event_of run.name place told
  pub arrives : ArrivesBy sent run.name told entry.packet
  pub gave : entry.given ≡ given
  pub its : incarnation_of run.name past ≡ Some run.incarnation

-- After this past the entry says what was accepted.
abbrev pub Says : List (Packet Frame) → List Entry → Accepted → Entry → Type 0
Says sent past (started run peers contact) entry = entry.event ≡ Start run.name run.incarnation peers contact
Says sent past (took run told given) entry = IsStepOf sent past run told given entry

-- The entries say what was accepted, one for one; of both the newest stands first.
abbrev pub SayAll : List (Packet Frame) → List Accepted → List Entry → Type 0
SayAll sent [] [] = Unit {0}
SayAll sent [] (entry ∷ past) = ⊥
SayAll sent (accepted ∷ before) [] = ⊥
SayAll sent (accepted ∷ before) (entry ∷ past) = Says sent past accepted entry × SayAll sent before past

module _
    {C : Type 0}
    (state : C → CoreState)
    (starts : Origin → Limits → List Name → Option Name → List (Name × Frame) → C → Type 0)
    (steps : C → Stimulus Frame → List (Name × Frame) → List Delivery → C → Type 0)
  where
    -- A check that keeps the one accepts this, and then keeps the other.
    abbrev pub Accepts : Kept C → Accepted → Kept C → Type 0
    Accepts old (started run peers contact) new = Begins state starts steps old run peers contact new
    Accepts old (took run told given) new = Goes state starts steps old run told given new

    -- It accepts all of these, one after the other.
    abbrev pub AcceptsAll : Kept C → List Accepted → Kept C → Type 0
    AcceptsAll old [] new = new ≡ old
    AcceptsAll old (accepted ∷ later) new = (between : Kept C) × Accepts old accepted between × AcceptsAll between later new

    -- What was accepted, the oldest first, is one run of a group, entry for entry, and so nothing is lost in it and nobody
    -- stops. Its nodes are kept, and so is exactly what is in flight in it, where no two packets have one frame id.
    pub record IsOneRun (all : List Accepted) (kept : Kept C) : Type 0 where
      pub past : List Entry
      pub group : Group C Frame
      pub follows : Follows state starts steps kept past group
      pub says : SayAll group.sent (reverse all) past
      pub aloft : AreNumbered group.sent → AreKept group kept.packets
