-- How events are printed, and which node each one touches.
use Rattle.std.specs.Prelude.{ℕ, List, ◌++◌, Option, Some, None, codes, length, option_map, slice_get}
use Rattle.std.specs.Fmt.{decimal}
use Rattle.std.specs.Option.{option_and_then}
use Rattle.node_names.specs.Ids.{msg_id_text}
use Rattle.node_names.specs.NodeName.{Name}
use Rattle.node_names.specs.declared.ids.Incarnation.{Incarnation}
use Rattle.node_names.specs.declared.ids.MsgId.{MsgId}
use Rattle.world.specs.Entry.{Entry}
use Rattle.world.specs.Event.{Event}
use Rattle.world.specs.Group.{Logged, core_of}
use Rattle.world.specs.declared.event.EventOf.{EventOf}
use Rattle.world.specs.declared.event.EventOf.TheVariants.{Start, Broadcast, Arrive, Lose, Again, Fire, Flush, Down, Shuffle, Join, Stop}
use Rattle.world.specs.declared.node_state.NodeState.{NodeState}
use Rattle.world.specs.declared.packet.Packet.{Packet}
use Rattle.frames.specs.Frame.{Frame}
use Rattle.node_core.specs.Plum.{Plum}
use Rattle.trace_text.specs.Names.{maybe_name, names_text}
use Rattle.trace_text.specs.Packets.{packet_at}
use Rattle.trace_text.specs.Parts.{Parts, parts_in}

-- ---- in words

-- a start in words
abbrev pub start_words : Name → Incarnation → List Name → Option Name → List ℕ
start_words name incarnation peers contact =
    codes "start "
    ++ (name ++ (codes "/" ++ (decimal incarnation.0 ++ (codes " | peers:" ++ (names_text peers ++ (codes " | contact:" ++ maybe_name contact))))))

-- the words, the place or number by which the event names a packet, and that packet, by its place among all packets
-- ever sent
abbrev pub naming_words : List ℕ → ℕ → List (Packet Frame) → Option ℕ → List ℕ
naming_words words said sent number = words ++ (decimal said ++ (codes ":" ++ packet_at sent number))

-- a firing in words
abbrev pub fire_words : Name → MsgId → List ℕ
fire_words name id = codes "fire " ++ (name ++ (codes " " ++ msg_id_text id))

-- an event in words; `number` is the place of the packet that it named among all packets ever sent
abbrev pub event_words : List (Packet Frame) → Option ℕ → Event → List ℕ
event_words sent number (Start name incarnation peers contact) = start_words name incarnation peers contact
event_words sent number (Broadcast name payload) = codes "broadcast by " ++ (name ++ (codes " length " ++ decimal (length payload)))
event_words sent number (Arrive place dice) = naming_words (codes "arrive place ") place sent number
event_words sent number (Lose place) = naming_words (codes "lose place ") place sent number
event_words sent number (Again again) = naming_words (codes "again number ") again sent number
event_words sent number (Fire name id) = fire_words name id
event_words sent number (Flush name) = codes "flush " ++ name
event_words sent number (Shuffle name dice) = codes "shuffle " ++ name
event_words sent number (Join name contact) = codes "join " ++ (name ++ (codes " " ++ contact))
event_words sent number (Down name peer dice) = codes "down " ++ (name ++ (codes " " ++ peer))
event_words sent number (Stop name) = codes "stop " ++ name

-- the line of an entry's event
abbrev pub event_line : List (Packet Frame) → Entry → List ℕ
event_line sent entry = event_words sent entry.packet entry.event ++ codes "\n"

-- ---- the node that it touches

-- the receiver of the packet of this number
abbrev pub receiver_of : List (Packet Frame) → Option ℕ → Option Name
receiver_of sent number = option_map (λ (packet : Packet Frame). packet.to) (option_and_then (slice_get sent) number)

-- the name that an event touches, if the packet that it named has this number; losing or repeating a packet touches no
-- node
abbrev pub touched_by : {P L D : Type 0} → List (Packet Frame) → Option ℕ → EventOf P L D → Option Name
touched_by sent number (Arrive place dice) = receiver_of sent number
touched_by sent number (Start name incarnation peers contact) = Some name
touched_by sent number (Broadcast name payload) = Some name
touched_by sent number (Lose place) = None
touched_by sent number (Again again) = None
touched_by sent number (Fire name id) = Some name
touched_by sent number (Flush name) = Some name
touched_by sent number (Shuffle name dice) = Some name
touched_by sent number (Join name contact) = Some name
touched_by sent number (Down name peer dice) = Some name
touched_by sent number (Stop name) = Some name

-- the number of the packet that an event would name: the one at its place in flight
abbrev pub number_by : {P L D : Type 0} → List ℕ → EventOf P L D → Option ℕ
number_by flight (Arrive place dice) = slice_get flight place
number_by flight (Start name incarnation peers contact) = None
number_by flight (Broadcast name payload) = None
number_by flight (Lose place) = None
number_by flight (Again again) = None
number_by flight (Fire name id) = None
number_by flight (Flush name) = None
number_by flight (Shuffle name dice) = None
number_by flight (Join name contact) = None
number_by flight (Down name peer dice) = None
number_by flight (Stop name) = None

-- the parts of the node of this name
abbrev pub parts_under : Option Name → List (NodeState Plum) → Parts
parts_under None nodes = parts_in None
parts_under (Some name) nodes = parts_in (core_of name nodes)

-- the parts of the node that an event will touch in this group
abbrev pub touched_parts : Logged Plum Frame → Event → Parts
touched_parts group event = parts_under (touched_by group.group.sent (number_by group.group.flight event) event) group.group.nodes
