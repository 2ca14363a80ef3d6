-- How a group is drawn in a document in Graphviz's language: its nodes and their links, and each message's tree.
use Rattle.std.specs.Prelude.{◌≡◌, ◌↔◌, ℕ, Bool, IsTrue, List, [], ◌∷◌, ◌++◌, Option, Some, None, codes, if◌then◌else◌, option_map, reverse, slice_get}
use Rattle.std.specs.List.{list_any}
use Rattle.std.specs.Fmt.{decimal}
use Rattle.frames.specs.Content.{frame_content}
use Rattle.frames.specs.Frame.{Frame}
use Rattle.node_names.specs.Ids.{origin_text, msg_id_text}
use Rattle.node_names.specs.NodeName.{Name}
use Rattle.node_names.specs.Same.{same_origin}
use Rattle.node_names.specs.declared.ids.MsgId.{MsgId}
use Rattle.node_names.specs.declared.ids.Origin.{Origin}
use Rattle.peer_sets.specs.declared.members.PeerKind.{PeerKind}
use Rattle.peer_sets.specs.declared.members.PeerKind.TheVariants.{Eager, Lazy}
use Rattle.node_core.specs.Plum.{Plum, plum_state}
use Rattle.world.specs.Group.{Group, Logged, node_of, origin_of}
use Rattle.world.specs.Rest.{IsAtRest}
use Rattle.world.specs.declared.node_state.NodeState.{NodeState}
use Rattle.world.specs.declared.packet.Packet.{Packet}
use Rattle.at_rest.specs.Silence.{is_silent}
use Rattle.at_rest.specs.Tree.{tree_of}
use Rattle.at_rest.specs.declared.branch.Branch.{Branch}
use Rattle.simulation.specs.Trees.{rest_word}
use Rattle.simulation.specs.Turns.{InTurn}

-- ---- the links

-- how a link is drawn: an eager one as a plain arrow, a lazy one dashed
abbrev pub style_text : PeerKind → List ℕ
style_text Eager = codes ";\n"
style_text Lazy = codes " [style = dashed];\n"

-- the line of a link of a node
abbrev pub link_line : Name → Name × PeerKind → List ℕ
link_line name member = codes "    \"" ++ name ++ codes "\" -> \"" ++ member.0 ++ codes "\"" ++ style_text member.1

-- the lines of the links of a node, in their order
abbrev pub link_lines : Name → List (Name × PeerKind) → List ℕ
link_lines name [] = []
link_lines name (member ∷ members) = link_line name member ++ link_lines name members

-- the lines of a node: the node itself, with its current or last run, and its links if it runs; a stopped node is
-- dotted
abbrev pub node_lines : Origin → Option Plum → List ℕ
node_lines node None = codes "    \"" ++ node.name ++ codes "\" [label = \"" ++ origin_text node ++ codes " stopped\", style = dotted];\n"
node_lines node (Some core) =
    codes "    \"" ++ node.name ++ codes "\" [label = \"" ++ origin_text node ++ codes "\"];\n" ++ link_lines node.name core.gossip.peers.members

-- the lines of a node of a group
abbrev pub state_lines : NodeState Plum → List ℕ
state_lines node = node_lines (origin_of node) node.core

-- the lines of nodes, in their order
abbrev pub overlay_lines : List (NodeState Plum) → List ℕ
overlay_lines [] = []
overlay_lines (node ∷ nodes) = state_lines node ++ overlay_lines nodes

-- ---- the trees

-- the name of a run in the part of a message
abbrev pub run_text : MsgId → Origin → List ℕ
run_text id run = codes "\"" ++ msg_id_text id ++ codes " " ++ origin_text run ++ codes "\""

-- an arrow from one run to another
unfoldable pub between_text : MsgId → Origin → Origin → List ℕ
between_text id from to = codes "    " ++ run_text id from ++ codes " -> " ++ run_text id to

-- the arrow of a delivery, from the run that it came from; the origin's own delivery has none
abbrev pub edge_line : MsgId → Origin → Option Origin → List ℕ
edge_line id node None = []
edge_line id node (Some parent) = between_text id parent node ++ codes " [style = bold];\n"

-- the lines of a delivery: the run that delivered, and the arrow to it
abbrev pub twig_lines : MsgId → Branch → List ℕ
twig_lines id branch =
    (codes "    \"" ++ msg_id_text id ++ codes " " ++ origin_text branch.node ++ codes "\" [label = \"" ++ origin_text branch.node ++ codes "\"];\n")
    ++ edge_line id branch.node branch.parent

-- the lines of deliveries, in their order
abbrev pub crown_lines : MsgId → List Branch → List ℕ
crown_lines id [] = []
crown_lines id (branch ∷ branches) = twig_lines id branch ++ crown_lines id branches

-- the line of a run that has not delivered the message: it is dotted
abbrev pub lacking_line : MsgId → Origin → List ℕ
lacking_line id node =
    codes "    \"" ++ msg_id_text id ++ codes " " ++ origin_text node ++ codes "\" [label = \"" ++ origin_text node ++ codes "\", style = dotted];\n"

-- the line of a node, if it runs and has not delivered the message
abbrev pub lacking_lines_of : MsgId → List Branch → Origin → Option Plum → List ℕ
lacking_lines_of id branches node None = []
lacking_lines_of id branches node (Some core) = if list_any (λ b. same_origin b.node node) branches then [] else lacking_line id node

-- the line of a node of a group, if it runs and has not delivered the message
abbrev pub state_lacking : MsgId → List Branch → NodeState Plum → List ℕ
state_lacking id branches node = lacking_lines_of id branches (origin_of node) node.core

-- the lines of all running nodes that have not delivered the message, in their order
abbrev pub lacking_lines : MsgId → List Branch → List (NodeState Plum) → List ℕ
lacking_lines id branches [] = []
lacking_lines id branches (node ∷ nodes) = state_lacking id branches node ++ lacking_lines id branches nodes

-- ---- what is in flight

-- the style of the arrow of a packet
unfoldable pub packet_style : ℕ → List ℕ
packet_style number = codes " [style = dashed, label = \"packet " ++ decimal number ++ codes "\"];\n"

-- the arrow of a packet
abbrev pub arrow_line : MsgId → ℕ → Origin → Origin → List ℕ
arrow_line id number sender receiver = between_text id sender receiver ++ packet_style number

-- the arrow of a packet in flight to the last run of its receiver, if that node was ever started
abbrev pub flying_arrow : MsgId → ℕ → Origin → Option Origin → List ℕ
flying_arrow id number sender None = []
flying_arrow id number sender (Some receiver) = arrow_line id number sender receiver

-- the line of a packet with this number, if there is one and it carries, announces or asks for the message
abbrev pub flying_line : MsgId → List (NodeState Plum) → ℕ → Option (Packet Frame) → List ℕ
flying_line id nodes number None = []
flying_line id nodes number (Some packet) =
    if is_silent id (frame_content packet.note) then [] else flying_arrow id number packet.sender (option_map origin_of (node_of packet.to nodes))

-- the line of the packet that was sent with this number
abbrev pub flying_at : MsgId → Group Plum Frame → ℕ → List ℕ
flying_at id group number = flying_line id group.nodes number (slice_get group.sent number)

-- the lines of the packets in flight, in their order
abbrev pub flying_lines : MsgId → Group Plum Frame → List ℕ → List ℕ
flying_lines id group [] = []
flying_lines id group (number ∷ numbers) = flying_at id group number ++ flying_lines id group numbers

-- the beginning of the part of a message
abbrev pub opening_text : MsgId → List ℕ
opening_text id = codes "  subgraph \"cluster " ++ msg_id_text id ++ codes "\" {\n"

-- the end of its label, which says whether the group is at rest for the message
unfoldable pub rest_text : Bool → List ℕ
rest_text rest = codes " rest " ++ rest_word rest ++ codes "\";\n"

-- the label of the part of a message
abbrev pub title_text : MsgId → Bool → List ℕ
title_text id rest = (codes "    label = \"" ++ msg_id_text id) ++ rest_text rest

-- the beginning and the label of the part of a message
unfoldable pub head_text : MsgId → Bool → List ℕ
head_text id rest = opening_text id ++ title_text id rest

-- the part of a message
abbrev pub part_text : MsgId → Bool → List Branch → Group Plum Frame → List ℕ
part_text id rest branches group =
    head_text id rest ++ crown_lines id branches ++ lacking_lines id branches group.nodes ++ flying_lines id group group.flight ++ codes "  }\n"

module _ (group : Logged Plum Frame) where
  -- The text is the part of a message in this group.
  pub record DrawsPart (id : MsgId) (text : List ℕ) : Type 0 where
    pub rest : Bool
    pub is_rest : IsTrue rest ↔ IsAtRest plum_state frame_content group.group id
    pub written : text ≡ part_text id rest (tree_of group.group.sent id (reverse group.log)) group.group

  -- The text is the document of this group and these messages. It is laid out from left to right, so that the trees of
  -- the messages are placed above one another.
  pub record DrawsGroup (ids : List MsgId) (text : List ℕ) : Type 0 where
    pub parts : List ℕ
    pub drawn : InTurn DrawsPart ids parts
    pub written : text
        ≡ (((codes "digraph plumtree {\n  rankdir = LR;\n  subgraph \"cluster overlay\" {\n    label = \"overlay\";\n" ++ overlay_lines group.group.nodes)
        ++ codes "  }\n") ++ parts)
        ++ codes "}\n"
