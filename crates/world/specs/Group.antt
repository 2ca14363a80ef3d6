-- A group of nodes, whatever their cores and their packets are.
use Rattle.std.specs.Prelude.{◌≡◌, ℕ, List, [], ◌∷◌, Option, Some, None, map, find, if◌then◌else◌}
use Rattle.node_names.specs.NodeName.{Name}
use Rattle.node_names.specs.Limits.{Limits}
use Rattle.node_names.specs.declared.ids.Origin.{Origin}
use Rattle.world.specs.Entry.{Entry}
use Rattle.node_names.specs.Same.{same_name}
use Rattle.world.specs.declared.node_state.NodeState.{NodeState}
use Rattle.world.specs.declared.packet.Packet.{Packet}

-- The nodes in the order of their first starts, all packets ever sent, and the places there of those in flight, the
-- oldest first.
pub record Group (C N : Type 0) : Type 0 where
  pub nodes : List (NodeState C)
  pub sent : List (Packet N)
  pub flight : List ℕ

-- A group with its limits and the log of all accepted events, the oldest first.
pub record Logged (C N : Type 0) : Type 0 where
  pub limits : Limits
  pub group : Group C N
  pub log : List Entry

-- The group has no node, and nothing was sent in it.
pub record IsEmptyGroup {C N : Type 0} (group : Group C N) : Type 0 where
  pub no_nodes : group.nodes ≡ []
  pub nothing_sent : group.sent ≡ []
  pub nothing_in_flight : group.flight ≡ []

-- the node of this name
abbrev pub node_of : {C : Type 0} → Name → List (NodeState C) → Option (NodeState C)
node_of name nodes = find (λ node. same_name name node.name) nodes

-- the core of a node that runs
abbrev pub core_in : {C : Type 0} → Option (NodeState C) → Option C
core_in None = None
core_in (Some node) = node.core

-- the core that runs under this name
abbrev pub core_of : {C : Type 0} → Name → List (NodeState C) → Option C
core_of name nodes = core_in (node_of name nodes)

-- the nodes, with this one in place of the first of the same name, or appended if no node has its name
abbrev pub put_node : {C : Type 0} → NodeState C → List (NodeState C) → List (NodeState C)
put_node node [] = node ∷ []
put_node node (other ∷ others) = if same_name node.name other.name then node ∷ others else other ∷ put_node node others

-- which run of the node this is
abbrev pub origin_of : {C : Type 0} → NodeState C → Origin
origin_of node = record { name = node.name; incarnation = node.highest }

-- the sends of this sender as packets, in order
abbrev pub packets : {N : Type 0} → Origin → List (Name × N) → List (Packet N)
packets sender sends = map (λ send. record { sender = sender; to = send.0; note = send.1 }) sends
