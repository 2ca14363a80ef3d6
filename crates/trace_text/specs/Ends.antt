-- How the end of a run is printed: the nodes, and what became of each message.
use Rattle.std.specs.Prelude.{ℕ, Bool, true, false, List, [], ◌∷◌, ◌++◌, Option, Some, None, codes, not, slice_get, if◌then◌else◌}
use Rattle.std.specs.List.{list_any}
use Rattle.std.specs.Option.{option_map_or}
use Rattle.node_names.specs.Ids.{origin_text, msg_id_text}
use Rattle.node_names.specs.NodeName.{Name}
use Rattle.node_names.specs.Same.{has_id, same_id, same_origin}
use Rattle.node_names.specs.declared.ids.MsgId.{MsgId}
use Rattle.node_names.specs.declared.ids.Origin.{Origin}
use Rattle.world.specs.Group.{Logged, origin_of}
use Rattle.world.specs.declared.node_state.NodeState.{NodeState}
use Rattle.world.specs.declared.packet.Packet.{Packet}
use Rattle.frames.specs.Content.{frame_content}
use Rattle.frames.specs.Frame.{Frame}
use Rattle.node_core.specs.Plum.{Plum, plum_state}
use Rattle.at_rest.specs.Forest.{branches_at}
use Rattle.at_rest.specs.Silence.{is_silent}
use Rattle.at_rest.specs.declared.branch.Branch.{Branch}
use Rattle.trace_text.specs.Packets.{packet_text}
use Rattle.trace_text.specs.Parts.{parts_of, parts_text}

-- ---- the nodes

-- the state of a run of a node
abbrev pub state_text : Option Plum → List ℕ
state_text None = codes " stopped"
state_text (Some core) = parts_text (parts_of core)

-- the line of a node, with its current or last run
abbrev pub node_line : NodeState Plum → List ℕ
node_line node = codes "node " ++ (origin_text (origin_of node) ++ (state_text node.core ++ codes "\n"))

-- the lines of nodes, in their order
abbrev pub node_lines : List (NodeState Plum) → List ℕ
node_lines [] = []
node_lines (node ∷ nodes) = node_line node ++ node_lines nodes

-- the lines of all nodes of a group
abbrev pub nodes_text : Logged Plum Frame → List ℕ
nodes_text group = node_lines group.group.nodes

-- ---- a message

-- the word that says whether a group is at rest
abbrev pub rest_word : Bool → List ℕ
rest_word true = codes "yes"
rest_word false = codes "no"

-- the first line of a message
abbrev pub rest_line : MsgId → Bool → List ℕ
rest_line id rest = codes "message " ++ (msg_id_text id ++ (codes " rest " ++ (rest_word rest ++ codes "\n")))

-- the line of a run of a node that has not delivered a message
abbrev pub lacks_line : Origin → List ℕ
lacks_line node = codes "  lacks " ++ (origin_text node ++ codes "\n")

-- the line of a running node, unless one of the branches is that of its run
abbrev pub lacking_line : List Branch → Origin → Option Plum → List ℕ
lacking_line branches node None = []
lacking_line branches node (Some core) = if list_any (λ b. same_origin b.node node) branches then [] else lacks_line node

-- the line of a running node, unless it has delivered the message
abbrev pub lacking_unless : Bool → Origin → Option Plum → List ℕ
lacking_unless delivered node None = []
lacking_unless delivered node (Some core) = if delivered then [] else lacks_line node

-- the lines of the running nodes that have not delivered the message, in their order
abbrev pub lacking_lines : List Branch → List (NodeState Plum) → List ℕ
lacking_lines branches [] = []
lacking_lines branches (node ∷ nodes) = lacking_line branches (origin_of node) node.core ++ lacking_lines branches nodes

-- the line of a packet in flight
abbrev pub in_flight_line : ℕ → Packet Frame → List ℕ
in_flight_line place packet = codes "  in flight " ++ (packet_text place packet ++ codes "\n")

-- the line of a packet, if it carries, announces or asks for the message
abbrev pub flying_line : MsgId → ℕ → Packet Frame → List ℕ
flying_line id place packet = if is_silent id (frame_content packet.note) then [] else in_flight_line place packet

-- the line of the packet at a place among all packets ever sent, if there is one
abbrev pub flying_at : MsgId → List (Packet Frame) → ℕ → List ℕ
flying_at id sent place = option_map_or (λ (packet : Packet Frame). flying_line id place packet) (slice_get sent place) []

-- the lines of the packets in flight, in their order
abbrev pub flying_lines : MsgId → List (Packet Frame) → List ℕ → List ℕ
flying_lines id sent [] = []
flying_lines id sent (place ∷ places) = flying_at id sent place ++ flying_lines id sent places

-- the line of an announcement that a run of a node has queued, if it is of the message
abbrev pub queued_line : MsgId → Origin → Name × MsgId × ℕ → List ℕ
queued_line id node entry = if same_id id entry.1 then codes "  queued " ++ (origin_text node ++ (codes " -> " ++ (entry.0 ++ codes "\n"))) else []

-- the lines of announcements, in their order
abbrev pub queued_by : MsgId → Origin → List (Name × MsgId × ℕ) → List ℕ
queued_by id node [] = []
queued_by id node (entry ∷ entries) = queued_line id node entry ++ queued_by id node entries

-- the lines of the announcements of a node, if it runs
abbrev pub queued_at : MsgId → Origin → Option Plum → List ℕ
queued_at id node None = []
queued_at id node (Some core) = queued_by id node (plum_state core).queued

-- the lines of the announcements of all nodes, in their order
abbrev pub queued_lines : MsgId → List (NodeState Plum) → List ℕ
queued_lines id [] = []
queued_lines id (node ∷ nodes) = queued_at id (origin_of node) node.core ++ queued_lines id nodes

-- the line of an armed timer of a run of a node, if it is for the message
abbrev pub timer_line : MsgId → Origin → MsgId → List ℕ
timer_line id node timed = if same_id id timed then codes "  timer " ++ (origin_text node ++ codes "\n") else []

-- the lines of timers, in their order
abbrev pub timers_by : MsgId → Origin → List MsgId → List ℕ
timers_by id node [] = []
timers_by id node (timed ∷ timers) = timer_line id node timed ++ timers_by id node timers

-- the lines of the timers of a node, if it runs
abbrev pub timers_at : MsgId → Origin → Option Plum → List ℕ
timers_at id node None = []
timers_at id node (Some core) = timers_by id node (plum_state core).timers

-- the lines of the timers of all nodes, in their order
abbrev pub timer_lines : MsgId → List (NodeState Plum) → List ℕ
timer_lines id [] = []
timer_lines id (node ∷ nodes) = timers_at id (origin_of node) node.core ++ timer_lines id nodes

-- what is under way about a message in a group: packets in flight, queued announcements and timers
abbrev pub under_way_lines : Logged Plum Frame → MsgId → List ℕ
under_way_lines group id = flying_lines id group.group.sent group.group.flight ++ (queued_lines id group.group.nodes ++ timer_lines id group.group.nodes)

-- what became of a message in a group: whether the group is at rest for it, which running nodes have not delivered it,
-- and which packets in flight, queued announcements and timers are about it
abbrev pub message_text : Logged Plum Frame → MsgId → Bool → List Branch → List ℕ
message_text group id rest branches =
    rest_line id rest
    ++ (lacking_lines branches group.group.nodes
    ++ (flying_lines id group.group.sent group.group.flight
    ++ (queued_lines id group.group.nodes
    ++ timer_lines id group.group.nodes)))

-- what became of messages in a group, one after the other; `unrest` are those for which it is not at rest, and `trees`
-- are the branches of each
abbrev pub messages_text : Logged Plum Frame → List MsgId → List (MsgId × List Branch) → List MsgId → List ℕ
messages_text group unrest trees [] = []
messages_text group unrest trees (id ∷ ids) = message_text group id (not (has_id unrest id)) (branches_at id trees) ++ messages_text group unrest trees ids
