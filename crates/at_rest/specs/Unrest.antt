-- The messages for which a group is not at rest, all at once.
use Rattle.std.specs.Prelude.{◌≡◌, ℕ, List, [], ◌∷◌, ◌++◌, Option, Some, None, map, slice_get}
use Rattle.std.specs.Option.{option_map_or}
use Rattle.node_names.specs.NodeName.{Name}
use Rattle.node_names.specs.Same.{has_id}
use Rattle.node_names.specs.declared.ids.MsgId.{MsgId}
use Rattle.protocol.specs.Content.{Content}
use Rattle.protocol.specs.CoreState.{CoreState}
use Rattle.world.specs.Group.{core_of}
use Rattle.world.specs.declared.node_state.NodeState.{NodeState}
use Rattle.world.specs.declared.packet.Packet.{Packet}

-- the message that a packet carries, if it carries one
abbrev pub carried_ids : Option (MsgId × List ℕ) → List MsgId
carried_ids None = []
carried_ids (Some message) = message.0 ∷ []

-- the message that a packet asks for, if it asks for one
abbrev pub asked_ids : Option MsgId → List MsgId
asked_ids None = []
asked_ids (Some id) = id ∷ []

-- the messages that a packet with this content carries, announces or asks for
abbrev pub content_ids : Content → List MsgId
content_ids content = carried_ids content.carried ++ (map (λ entry. entry.0) content.announced ++ asked_ids content.asked)

-- the messages for which a core has queued announcements or timers
abbrev pub core_ids : CoreState → List MsgId
core_ids core = map (λ entry. entry.1) core.queued ++ core.timers

-- the messages of the packet of this number
abbrev pub packet_ids : {N : Type 0} → (N → Content) → List (Packet N) → ℕ → List MsgId
packet_ids {N} content sent number = option_map_or (λ (packet : Packet N). content_ids (content packet.note)) (slice_get sent number) []

-- the messages of all packets of these numbers
abbrev pub flight_ids : {N : Type 0} → (N → Content) → List (Packet N) → List ℕ → List MsgId
flight_ids content sent [] = []
flight_ids content sent (number ∷ numbers) = packet_ids content sent number ++ flight_ids content sent numbers

-- the messages of the core that runs under the name, if there is one
abbrev pub node_ids : {C : Type 0} → (C → CoreState) → List (NodeState C) → Name → List MsgId
node_ids {C} state nodes name = option_map_or (λ (core : C). core_ids (state core)) (core_of name nodes) []

-- the messages of all cores that run under the names of the nodes in the second list
abbrev pub nodes_ids : {C : Type 0} → (C → CoreState) → List (NodeState C) → List (NodeState C) → List MsgId
nodes_ids state nodes [] = []
nodes_ids state nodes (node ∷ others) = node_ids state nodes node.name ++ nodes_ids state nodes others

-- The new list has exactly the messages of the old one and `more`.
abbrev pub Adds : List MsgId → List MsgId → List MsgId → Type 0
Adds old more new = (id : MsgId) → has_id new id ≡ has_id (old ++ more) id
