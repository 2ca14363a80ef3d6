-- The names of peers.
use Rattle.std.specs.Prelude.{List, map}
use Rattle.std.specs.List.{IsDistinct}
use Rattle.node_names.specs.NodeName.{Name}
use Rattle.node_names.specs.Same.{same_name}
use Rattle.node_options.specs.declared.peer.Peer.{Peer}

-- the names of peers, in their order
abbrev pub names_of : List Peer → List Name
names_of peers = map (λ peer. peer.name) peers

-- no two peers have the same name
abbrev pub AreApart : List Peer → Type 0
AreApart peers = IsDistinct same_name (names_of peers)
