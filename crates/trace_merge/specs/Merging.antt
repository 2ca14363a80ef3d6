-- Traces that are played into one group, and how far each is.
use Rattle.std.specs.Prelude.{◌≡◌, ◌≢◌, ◌+◌, ◌-◌, ◌<◌, ◌≤◌, ◌⊎◌, ◌++◌, ℕ, suc, List, [], ◌∷◌, Option, Some, None, get_or, length, map, reverse, slice_get, take}
use Rattle.std.specs.List.{AllByRecursion as Each, flat_map}
use Rattle.node_names.specs.NodeName.{Name}
use Rattle.node_names.specs.Limits.{Limits}
use Rattle.node_names.specs.declared.ids.Origin.{Origin}
use Rattle.protocol.specs.Delivery.{Delivery}
use Rattle.protocol.specs.Lists.{IsOneOf}
use Rattle.protocol.specs.Replay.{Replays}
use Rattle.protocol.specs.Stimulus.{Stimulus}
use Rattle.protocol.specs.Trace.{Step, Trace}
use Rattle.protocol.specs.declared.stimulus.StimulusOf.TheVariants as stimulus
use Rattle.world.specs.Entry.{Entry}
use Rattle.world.specs.Event.{Event}
use Rattle.world.specs.Group.{Group, Logged, node_of, origin_of}
use Rattle.world.specs.History.{incarnation_of}
use Rattle.world.specs.Headline.{Headline}
use Rattle.world.specs.Plan.{stimulus_by}
use Rattle.world.specs.Run.{Applied, Run}
use Rattle.world.specs.declared.node_state.NodeState.{NodeState}
use Rattle.world.specs.declared.packet.Packet.{Packet}
use Rattle.world.specs.declared.error.WorldError.{WorldError}
use Rattle.world.specs.declared.error.WorldError.TheVariants.{UnknownNode, NotRunning, StaleIncarnation, BadPeers}
use Rattle.world.specs.declared.error.WorldError.TheVariants.{NoPacket, PayloadTooLong, SeqSpent, OutOfMemory as NoMemory}
use Rattle.world.specs.declared.event.EventOf.TheVariants.{Start, Broadcast, Arrive, Lose, Again, Fire, Flush, Down, Shuffle, Join, Stop}
use Rattle.frames.specs.Content.{frame_content}
use Rattle.frames.specs.Frame.{Frame}
use Rattle.node_core.specs.Plum.{Plum, plum_state}
use Rattle.node_core.specs.Steps.{PlumStarts, PlumSteps}
use Rattle.trace_merge.specs.FrameIds.{AreFound}
use Rattle.trace_merge.specs.Projection.{projection_in, stepped_name}
use Rattle.trace_merge.specs.declared.fault.MergeFault.{MergeFault}
use Rattle.trace_merge.specs.declared.frame_index.FrameId.{FrameId}
use Rattle.trace_merge.specs.declared.fault.MergeFault.TheVariants.{Doubled, Stuck, Unlike, NotARun, OutOfMemory}

-- the trace with its first steps alone
abbrev pub cut : {N : Type 0} → ℕ → Trace N → Trace N
cut k t = record t { steps = take k t.steps }

-- what the opening and the first steps send
abbrev pub sent_within : {N : Type 0} → ℕ → Trace N → List (Name × N)
sent_within {N} k t = t.opening.sends ++ flat_map (λ (s : Step N). s.out.sends) (take k t.steps)

-- The event loses no packet and stops no node.
abbrev pub IsKept : Event → Type 0
IsKept (Start name incarnation peers contact) = Unit {0}
IsKept (Broadcast name payload) = Unit {0}
IsKept (Arrive place dice) = Unit {0}
IsKept (Lose place) = ⊥
IsKept (Again number) = Unit {0}
IsKept (Fire name id) = Unit {0}
IsKept (Flush name) = Unit {0}
IsKept (Down name peer dice) = Unit {0}
IsKept (Shuffle name dice) = Unit {0}
IsKept (Join name contact) = Unit {0}
IsKept (Stop name) = ⊥

-- The event starts this run.
abbrev pub IsStartOf : Origin → Event → Type 0
IsStartOf o (Start name incarnation peers contact) = (o.name ≡ name) × (o.incarnation ≡ incarnation)
IsStartOf o (Broadcast name payload) = ⊥
IsStartOf o (Arrive place dice) = ⊥
IsStartOf o (Lose place) = ⊥
IsStartOf o (Again number) = ⊥
IsStartOf o (Fire name id) = ⊥
IsStartOf o (Flush name) = ⊥
IsStartOf o (Down name peer dice) = ⊥
IsStartOf o (Shuffle name dice) = ⊥
IsStartOf o (Join name contact) = ⊥
IsStartOf o (Stop name) = ⊥

-- Some trace is of this run.
pub record HasTrace (traces : List (Trace Frame)) (o : Origin) : Type 0 where
  pub trace : Trace Frame
  pub listed : IsOneOf trace traces
  pub its : trace.origin ≡ o

-- No two traces are of one run.
abbrev pub AreDistinct : List (Trace Frame) → Type 0
AreDistinct traces = (i j : ℕ) (s t : Trace Frame) → slice_get traces i ≡ Some s → slice_get traces j ≡ Some t → s.origin ≡ t.origin → i ≡ j

-- The events are a run of a group under these limits that starts exactly the runs of the traces, loses and stops
-- nothing, and in which each of them did what its trace says. So all that holds of groups of such nodes holds of it.
pub record IsMerged (limits : Limits) (traces : List (Trace Frame)) (events : List Event) : Type 0 where
  pub distinct : AreDistinct traces
  pub world : Logged Plum Frame
  pub same_limits : world.limits ≡ limits
  pub ran : Run plum_state PlumStarts PlumSteps limits (reverse world.log) world.group
  pub of_events : map (λ (e : Entry). e.event) world.log ≡ events
  pub headline : Headline plum_state frame_content world
  pub kept : Each IsKept events
  pub started : Each (λ (event : Event). (o : Origin) → IsStartOf o event → HasTrace traces o) events
  pub projected : Each (λ (t : Trace Frame). projection_in t.origin world ≡ Some t) traces

-- ---- while traces are played

-- how far the trace at a place is played; none where it is not started
abbrev pub place_at : List (Option ℕ) → ℕ → Option ℕ
place_at places i = get_or places i None

-- The group that the traces are played into, the events that it took, how far each trace is played, and where sent
-- frames are found.
pub record Merge : Type 0 where
  pub world : Logged Plum Frame
  pub events : List Event
  pub places : List (Option ℕ)
  pub frames : List (FrameId × ℕ)

-- The trace's run is the last of its name and runs, and its core is what the first steps lead to.
pub record RunsTo (limits : Limits) (world : Logged Plum Frame) (t : Trace Frame) (k : ℕ) : Type 0 where
  pub last : incarnation_of t.origin.name (reverse world.log) ≡ Some t.origin.incarnation
  pub node : NodeState Plum
  pub core : Plum
  pub known : node_of t.origin.name world.group.nodes ≡ Some node
  pub highest : node.highest ≡ t.origin.incarnation
  pub running : node.core ≡ Some core
  pub replays : Replays PlumStarts PlumSteps limits (cut k t) core

-- The group has done what the trace says so far, and can go on from there.
abbrev pub Stands : Limits → Logged Plum Frame → Trace Frame → Option ℕ → Type 0
Stands limits world t None = projection_in t.origin world ≡ None
Stands limits world t (Some k) = (k ≤ length t.steps) × (projection_in t.origin world ≡ Some (cut k t)) × (k < length t.steps → RunsTo limits world t k)

-- A trace of this run is started.
pub record IsStarted (traces : List (Trace Frame)) (places : List (Option ℕ)) (o : Origin) : Type 0 where
  pub at : ℕ
  pub place : ℕ
  pub trace : Trace Frame
  pub listed : slice_get traces at ≡ Some trace
  pub its : trace.origin ≡ o
  pub stands : place_at places at ≡ Some place

-- The packet was sent by what is played of a trace.
pub record IsSentBy (traces : List (Trace Frame)) (places : List (Option ℕ)) (packet : Packet Frame) : Type 0 where
  pub at : ℕ
  pub place : ℕ
  pub trace : Trace Frame
  pub listed : slice_get traces at ≡ Some trace
  pub its : trace.origin ≡ packet.sender
  pub stands : place_at places at ≡ Some place
  pub sends : IsOneOf (packet.to, packet.note) (sent_within place trace)

-- So far the events are a run of the group that did what the traces say; a run that is not started is later than those
-- of its name that are; and the packets are those that the traces sent.
pub record IsMerging (limits : Limits) (traces : List (Trace Frame)) (m : Merge) : Type 0 where
  pub same_limits : m.world.limits ≡ limits
  pub ran : Run plum_state PlumStarts PlumSteps limits (reverse m.world.log) m.world.group
  pub of_events : map (λ (e : Entry). e.event) m.world.log ≡ m.events
  pub kept : Each IsKept m.events
  pub started : Each (λ (event : Event). (o : Origin) → IsStartOf o event → HasTrace traces o) m.events
  pub counted : length m.places ≡ length traces
  pub stands : (i : ℕ) (t : Trace Frame) → slice_get traces i ≡ Some t → Stands limits m.world t (place_at m.places i)
  pub later : (i j k : ℕ) (s t : Trace Frame) →
      slice_get traces i ≡ Some s →
      slice_get traces j ≡ Some t →
      s.origin.name ≡ t.origin.name →
      place_at m.places i ≡ None →
      place_at m.places j ≡ Some k →
      t.origin.incarnation.0 < s.origin.incarnation.0
  pub known : (name : Name) (node : NodeState Plum) → node_of name m.world.group.nodes ≡ Some node → IsStarted traces m.places (origin_of node)
  pub in_sent : (i k : ℕ) (t : Trace Frame) (send : Name × Frame) →
      slice_get traces i ≡ Some t →
      place_at m.places i ≡ Some k →
      IsOneOf send (sent_within k t) →
      IsOneOf (record { sender = t.origin; to = send.0; note = send.1 }) m.world.group.sent
  pub sent_by : (packet : Packet Frame) → IsOneOf packet m.world.group.sent → IsSentBy traces m.places packet
  pub found : AreFound m.world.group.sent m.frames

-- The trace is played out.
abbrev pub IsOut : Trace Frame → Option ℕ → Type 0
IsOut t None = ⊥
IsOut t (Some k) = k ≡ length t.steps

-- the event that starts the trace's run
abbrev pub start_of : Trace Frame → Event
start_of t = Start t.origin.name t.origin.incarnation t.peers t.contact

-- All earlier runs of the name are played out.
abbrev pub IsReady : List (Trace Frame) → List (Option ℕ) → Origin → Type 0
IsReady traces places o =
    (i : ℕ) (u : Trace Frame) → slice_get traces i ≡ Some u → u.origin.name ≡ o.name → u.origin.incarnation.0 < o.incarnation.0 → IsOut u (place_at places i)

-- The event is played, and is the last.
pub record Plays (event : Event) (old new : Merge) : Type 0 where
  pub given : List Delivery
  pub applied : Applied plum_state PlumStarts PlumSteps event given old.world new.world
  pub pushed : new.events ≡ old.events ++ event ∷ []
  pub places : new.places ≡ old.places
  pub found : AreFound new.world.group.sent new.frames

-- the number of the packet that an arrival is of
abbrev pub number_in : Group Plum Frame → Event → Option ℕ
number_in group (Arrive place dice) = slice_get group.flight place
number_in group (Start name incarnation peers contact) = None
number_in group (Broadcast name payload) = None
number_in group (Lose place) = None
number_in group (Again number) = None
number_in group (Fire name id) = None
number_in group (Flush name) = None
number_in group (Down name peer dice) = None
number_in group (Shuffle name dice) = None
number_in group (Join name contact) = None
number_in group (Stop name) = None

-- The event lets the core of this name take this stimulus.
pub record Tells (group : Group Plum Frame) (event : Event) (name : Name) (told : Stimulus Frame) : Type 0 where
  pub named : stepped_name group.sent event (number_in group event) ≡ Some name
  pub tells : stimulus_by group.sent event (number_in group event) ≡ Some told
  pub kept : IsKept event

-- what a refusal of the group says of the step that it refused
abbrev pub fault_of : Origin → ℕ → WorldError → MergeFault
fault_of o place UnknownNode = NotARun o place
fault_of o place NotRunning = NotARun o place
fault_of o place (StaleIncarnation highest) = NotARun o place
fault_of o place BadPeers = NotARun o place
fault_of o place NoPacket = NotARun o place
fault_of o place PayloadTooLong = NotARun o place
fault_of o place SeqSpent = NotARun o place
fault_of o place NoMemory = OutOfMemory

-- how much is left to be played of a trace
abbrev pub left : Trace Frame → Option ℕ → ℕ
left t None = suc (length t.steps)
left t (Some k) = length t.steps - k

-- and of all of them
abbrev pub remaining : List (Trace Frame) → List (Option ℕ) → ℕ
remaining [] places = 0
remaining (t ∷ traces) [] = left t None + remaining traces []
remaining (t ∷ traces) (p ∷ places) = left t p + remaining traces places

-- ---- refusals

-- No trace has, as far as it is played, sent a frame of this number under this origin.
abbrev pub IsUnsent : List (Trace Frame) → List (Option ℕ) → Origin → ℕ → Type 0
IsUnsent traces places sender number =
    (j k : ℕ) (t : Trace Frame) →
    slice_get traces j ≡ Some t →
    place_at places j ≡ Some k →
    t.origin ≡ sender →
    Each (λ send. send.1.number ≢ number) (sent_within k t)

-- The step is the arrival of a frame that is not sent.
abbrev pub AwaitsBy : List (Trace Frame) → List (Option ℕ) → Stimulus Frame → Type 0
AwaitsBy traces places (stimulus.Arrive sender note dice) = IsUnsent traces places sender note.number
AwaitsBy traces places (stimulus.Broadcast payload) = ⊥
AwaitsBy traces places (stimulus.Fire id) = ⊥
AwaitsBy traces places stimulus.Flush = ⊥
AwaitsBy traces places (stimulus.Down peer dice) = ⊥
AwaitsBy traces places (stimulus.Shuffle dice) = ⊥
AwaitsBy traces places (stimulus.Join contact) = ⊥

-- An earlier run of the name is not played out.
pub record AwaitsRun (traces : List (Trace Frame)) (places : List (Option ℕ)) (o : Origin) : Type 0 where
  pub at : ℕ
  pub earlier : Trace Frame
  pub listed : slice_get traces at ≡ Some earlier
  pub same : earlier.origin.name ≡ o.name
  pub lower : earlier.origin.incarnation.0 < o.incarnation.0
  pub left : ¬ IsOut earlier (place_at places at)

-- The trace is played out, or can't be played on.
abbrev pub IsHeld : List (Trace Frame) → List (Option ℕ) → Trace Frame → Option ℕ → Type 0
IsHeld traces places t None = AwaitsRun traces places t.origin
IsHeld traces places t (Some k) = (k ≡ length t.steps) ⊎ ((s : Step Frame) × (slice_get t.steps k ≡ Some s) × AwaitsBy traces places s.stimulus)

-- The traces are played so far that none can be played on, and the first that is not played out stands here.
pub record AreStuck (traces : List (Trace Frame)) (o : Origin) (place : ℕ) : Type 0 where
  pub places : List (Option ℕ)
  pub held : (i : ℕ) (t : Trace Frame) → slice_get traces i ≡ Some t → IsHeld traces places t (place_at places i)
  pub at : ℕ
  pub first : Trace Frame
  pub listed : slice_get traces at ≡ Some first
  pub its : first.origin ≡ o
  pub stands : (place_at places at ≡ Some place) ⊎ ((place_at places at ≡ None) × (place ≡ 0))
  pub left : ¬ IsOut first (place_at places at)
  pub others : (i : ℕ) (t : Trace Frame) → i < at → slice_get traces i ≡ Some t → IsOut t (place_at places i)

-- The step is the arrival of this frame from this run.
abbrev pub IsArrivalOf : Origin → Frame → Stimulus Frame → Type 0
IsArrivalOf from note (stimulus.Arrive sender came dice) = (sender ≡ from) × (came ≡ note)
IsArrivalOf from note (stimulus.Broadcast payload) = ⊥
IsArrivalOf from note (stimulus.Fire id) = ⊥
IsArrivalOf from note stimulus.Flush = ⊥
IsArrivalOf from note (stimulus.Down peer dice) = ⊥
IsArrivalOf from note (stimulus.Shuffle dice) = ⊥
IsArrivalOf from note (stimulus.Join contact) = ⊥

-- The trace's step here is the arrival of a frame that its sender's trace sent otherwise, or to another name.
pub record IsUnlike (traces : List (Trace Frame)) (o : Origin) (place : ℕ) : Type 0 where
  pub trace : Trace Frame
  pub sender : Trace Frame
  pub listed : IsOneOf trace traces
  pub its : trace.origin ≡ o
  pub step : Step Frame
  pub taken : slice_get trace.steps place ≡ Some step
  pub from : Origin
  pub note : Frame
  pub arrives : IsArrivalOf from note step.stimulus
  pub sender_listed : IsOneOf sender traces
  pub sends_it : sender.origin ≡ from
  pub to : Name
  pub other : Frame
  pub sent : IsOneOf (to, other) (sent_within (length sender.steps) sender)
  pub numbered : other.number ≡ note.number
  pub unlike : (to ≢ o.name) ⊎ (other ≢ note)

-- A core takes the trace's steps before this place.
pub record ReplaysBefore (limits : Limits) (t : Trace Frame) (place : ℕ) : Type 0 where
  pub core : Plum
  pub replays : Replays PlumStarts PlumSteps limits (cut place t) core

-- The trace's step at this place is its first that is not one of a core, or, at place 0, its start is not one.
pub record IsNoRun (limits : Limits) (traces : List (Trace Frame)) (o : Origin) (place : ℕ) : Type 0 where
  pub trace : Trace Frame
  pub listed : IsOneOf trace traces
  pub its : trace.origin ≡ o
  pub first : (place ≡ 0) ⊎ ReplaysBefore limits trace place
  pub fails : (core : Plum) → ¬ Replays PlumStarts PlumSteps limits (cut (suc place) trace) core

-- Two traces are of this run.
pub record IsDoubled (traces : List (Trace Frame)) (o : Origin) : Type 0 where
  pub first : ℕ
  pub second : ℕ
  pub one : Trace Frame
  pub other : Trace Frame
  pub apart : first < second
  pub one_listed : slice_get traces first ≡ Some one
  pub other_listed : slice_get traces second ≡ Some other
  pub one_its : one.origin ≡ o
  pub other_its : other.origin ≡ o

-- The traces are refused so.
abbrev pub Refuses : Limits → List (Trace Frame) → MergeFault → Type 0
Refuses limits traces (Doubled o) = IsDoubled traces o
Refuses limits traces (Stuck o place) = AreDistinct traces × AreStuck traces o place
Refuses limits traces (Unlike o place) = AreDistinct traces × IsUnlike traces o place
Refuses limits traces (NotARun o place) = AreDistinct traces × IsNoRun limits traces o place
Refuses limits traces OutOfMemory = Unit {0}
