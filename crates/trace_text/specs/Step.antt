-- How a step of a run is printed: an event and its effects.
use Rattle.std.specs.Prelude.{ℕ, ◌+◌, List, [], ◌∷◌, ◌++◌, Option, Some, None, codes, drop, length}
use Rattle.std.specs.Fmt.{decimal}
use Rattle.node_names.specs.Ids.{origin_text, msg_id_text}
use Rattle.node_names.specs.NodeName.{Name}
use Rattle.node_names.specs.declared.ids.Origin.{Origin}
use Rattle.protocol.specs.Delivery.{Delivery}
use Rattle.world.specs.Entry.{Entry}
use Rattle.world.specs.Group.{Logged, core_of}
use Rattle.world.specs.declared.node_state.NodeState.{NodeState}
use Rattle.frames.specs.Frame.{Frame}
use Rattle.node_core.specs.Plum.{Plum, plum_state}
use Rattle.trace_text.specs.Events.{event_line, touched_by}
use Rattle.trace_text.specs.Packets.{sent_lines}
use Rattle.trace_text.specs.Parts.{Parts, changes_text, parts_of}

-- the line of a delivery: the run that delivered, the message's id, and the length of its payload
abbrev pub delivery_line : Delivery → List ℕ
delivery_line d =
    codes "  deliver " ++ (origin_text d.node ++ (codes " " ++ (msg_id_text d.id ++ (codes " length " ++ (decimal (length d.payload) ++ codes "\n")))))

-- the lines of deliveries, in their order
abbrev pub delivery_lines : List Delivery → List ℕ
delivery_lines [] = []
delivery_lines (d ∷ ds) = delivery_line d ++ delivery_lines ds

-- the line of the changes of a run of a node; no line if nothing changed
abbrev pub line_of_changes : Origin → List ℕ → List ℕ
line_of_changes node [] = []
line_of_changes node (byte ∷ bytes) = codes "  " ++ (origin_text node ++ ((byte ∷ bytes) ++ codes "\n"))

-- the line of what changed at a node since its state was `old`; no line if it does not run
abbrev pub change_line : Parts → Option Plum → List ℕ
change_line old None = []
change_line old (Some core) = line_of_changes (plum_state core).me (changes_text old (parts_of core))

-- the line of what changed at the node of this name
abbrev pub change_under : Parts → Option Name → List (NodeState Plum) → List ℕ
change_under old None nodes = []
change_under old (Some name) nodes = change_line old (core_of name nodes)

-- a place in flight, and the number of the packet in that place
abbrev pub flight_item : ℕ → ℕ → List ℕ
flight_item place number = codes " " ++ (decimal place ++ (codes ":" ++ decimal number))

-- the places in flight from this one on
abbrev pub flight_items : ℕ → List ℕ → List ℕ
flight_items place [] = []
flight_items place (number ∷ numbers) = flight_item place number ++ flight_items (place + 1) numbers

-- the line of the packets in flight; no line if there are none
abbrev pub flight_line : List ℕ → List ℕ
flight_line [] = []
flight_line (number ∷ numbers) = codes "  flight" ++ (flight_items 0 (number ∷ numbers) ++ codes "\n")

-- an event: its line, the deliveries, the packets that it sent, what changed, and the packets in flight; `before` are
-- the parts of the node that it touches before the event, and `after` is the group after it
abbrev pub step_text : Parts → Logged Plum Frame → Entry → List ℕ
step_text before after entry =
    event_line after.group.sent entry
    ++ (delivery_lines entry.given
    ++ (sent_lines entry.first_sent (drop entry.first_sent after.group.sent)
    ++ (change_under before (touched_by after.group.sent entry.packet entry.event) after.group.nodes
    ++ flight_line after.group.flight)))
