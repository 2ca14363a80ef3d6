-- What one run of a node did, extracted from a group's history. A history is the log's entries, the newest first.
use Rattle.std.specs.Prelude.{◌-◌, ◌&&◌, ℕ, Bool, false, List, [], ◌∷◌, ◌++◌, Option, Some, None}
use Rattle.std.specs.Prelude.{drop, length, map, nat_eq, option_map, reverse, take, if◌then◌else◌}
use Rattle.node_names.specs.NodeName.{Name}
use Rattle.node_names.specs.Same.{same_name, same_origin}
use Rattle.node_names.specs.declared.ids.Incarnation.{Incarnation}
use Rattle.node_names.specs.declared.ids.Origin.{Origin}
use Rattle.protocol.specs.Output.{Output}
use Rattle.protocol.specs.Stimulus.{Stimulus}
use Rattle.protocol.specs.Trace.{Trace}
use Rattle.world.specs.Entry.{Entry}
use Rattle.world.specs.Event.{Event}
use Rattle.world.specs.Group.{Logged}
use Rattle.world.specs.History.{incarnation_of}
use Rattle.world.specs.Plan.{stimulus_by}
use Rattle.world.specs.Refusals.{sent_under}
use Rattle.world.specs.declared.event.EventOf.TheVariants.{Start, Broadcast, Arrive, Lose, Again, Fire, Flush, Down, Shuffle, Join, Stop}
use Rattle.world.specs.declared.packet.Packet.{Packet}

-- the receiver and the contents of a packet
abbrev pub said : {N : Type 0} → Packet N → Name × N
said packet = (packet.to, packet.note)

-- the packets with the numbers from `first` up to but not including `end`, each as its receiver and its contents
abbrev pub sends_between : {N : Type 0} → ℕ → ℕ → List (Packet N) → List (Name × N)
sends_between first end sent = map said (take (end - first) (drop first sent))

-- what the entry's event sent and delivered; `end` is the number of the next event's first packet
abbrev pub output_of : {N : Type 0} → Entry → ℕ → List (Packet N) → Output N
output_of entry end sent = record { sends = sends_between entry.first_sent end sent; deliveries = entry.given }

-- whether the run was the last one that its name had started
abbrev pub is_last : Origin → Option Incarnation → Bool
is_last o None = false
is_last o (Some incarnation) = nat_eq incarnation.0 o.incarnation.0

-- the receiver of a packet, if there is one
abbrev pub receiver : {N : Type 0} → Option (Packet N) → Option Name
receiver {N} packet = option_map (λ (p : Packet N). p.to) packet

-- the name whose core an event steps, if it steps one; for an arrival it is the receiver of the packet of this number
abbrev pub stepped_name : {N : Type 0} → List (Packet N) → Event → Option ℕ → Option Name
stepped_name sent (Broadcast name payload) number = Some name
stepped_name sent (Arrive place dice) number = receiver (sent_under sent number)
stepped_name sent (Fire name id) number = Some name
stepped_name sent (Flush name) number = Some name
stepped_name sent (Down name peer dice) number = Some name
stepped_name sent (Shuffle name dice) number = Some name
stepped_name sent (Join name contact) number = Some name
stepped_name sent (Start name incarnation peers contact) number = None
stepped_name sent (Lose place) number = None
stepped_name sent (Again other) number = None
stepped_name sent (Stop name) number = None

-- whether the other name, if there is one, is this name
abbrev pub is_name : Name → Option Name → Bool
is_name name None = false
is_name name (Some other) = same_name name other

-- the trace with one more step, if there is a stimulus
abbrev pub with_step : {N : Type 0} → Option (Stimulus N) → Output N → Trace N → Trace N
with_step None out t = t
with_step (Some told) out t = record t { steps = t.steps ++ record { stimulus = told; out = out } ∷ [] }

-- the trace after an event that may be a step of the run
abbrev pub stepped_on : {N : Type 0} → Bool → Option (Stimulus N) → Output N → Option (Trace N) → Option (Trace N)
stepped_on {N} is_its told out trace = if is_its then option_map (λ (t : Trace N). with_step told out t) trace else trace

-- the trace after an event that may be the run's start
abbrev pub started_on : {N : Type 0} → Origin → Event → Output N → Option (Trace N) → Option (Trace N)
started_on o (Start name incarnation peers contact) out trace =
    if same_origin o (record { name = name; incarnation = incarnation })
    then Some (record { origin = o; peers = peers; contact = contact; opening = out; steps = [] })
    else trace
started_on o (Broadcast name payload) out trace = trace
started_on o (Arrive place dice) out trace = trace
started_on o (Lose place) out trace = trace
started_on o (Again again) out trace = trace
started_on o (Fire name id) out trace = trace
started_on o (Flush name) out trace = trace
started_on o (Down name peer dice) out trace = trace
started_on o (Shuffle name dice) out trace = trace
started_on o (Join name contact) out trace = trace
started_on o (Stop name) out trace = trace

-- the trace after the entry; `last` is the incarnation that the name had started last before, and `end` is the number
-- of the next event's first packet
abbrev pub traced_on : {N : Type 0} → Origin → Option Incarnation → List (Packet N) → Entry → ℕ → Option (Trace N) → Option (Trace N)
traced_on o last sent entry end trace =
    let out = output_of entry end sent in
    started_on o entry.event out
    (stepped_on (is_last o last && is_name o.name (stepped_name sent entry.event entry.packet)) (stimulus_by sent entry.event entry.packet) out trace)

-- the run's trace in a history after which `end` packets had been sent; `None` if the run was never started
abbrev pub projection : {N : Type 0} → Origin → List (Packet N) → ℕ → List Entry → Option (Trace N)
projection o sent end [] = None
projection o sent end (entry ∷ past) = traced_on o (incarnation_of o.name past) sent entry end (projection o sent entry.first_sent past)

-- the run's trace in a group
abbrev pub projection_in : {C N : Type 0} → Origin → Logged C N → Option (Trace N)
projection_in o world = projection o world.group.sent (length world.group.sent) (reverse world.log)

-- the number of the next event's first packet, or the number of all packets if there is no next event
abbrev pub first_number : ℕ → List Entry → ℕ
first_number all [] = all
first_number all (entry ∷ later) = entry.first_sent
