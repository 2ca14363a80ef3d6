-- Names that are tested to be distinct.
use Rattle.std.specs.Prelude.{◌≡◌, List, true}
use Rattle.std.specs.List.{IsDistinct}
use Rattle.node_names.specs.NodeName.{Name}
use Rattle.node_names.specs.Same.{same_name}
use Rattle.protocol.specs.Peers.{are_distinct}
use Rattle.protocol.specs.impl_proofs.NameLists.{distinct_names}

-- the test finds lists without a name that stands twice
pub distinct : (names : List Name) → are_distinct names ≡ true → IsDistinct same_name names
distinct names h = distinct_names names h
