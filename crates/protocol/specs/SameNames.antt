-- When two lists name the same nodes.
use Rattle.std.specs.Prelude.{◌≡◌, List}
use Rattle.node_names.specs.NodeName.{Name}
use Rattle.node_names.specs.Same.{has_name}

-- Two lists name the same nodes.
abbrev pub SameNames : List Name → List Name → Type 0
SameNames names others = (name : Name) → has_name names name ≡ has_name others name
