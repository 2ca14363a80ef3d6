use Rattle.std.proofs.Common.{◌≡◌, ◌∷◌, ◌++◌, length, take}
use Rattle.std.specs.List.{flat_map, AllByRecursion}
use Rattle.node_names.specs.NodeName.{IsNodeName}
use Rattle.frames.specs.Field.{name_octets}
use Rattle.frames.proofs.encoding.put_names.Given as goal

abbrev pub invariant-loop-name : goal.invariant-loop-name
invariant-loop-name g l =
    (l.out.items ≡ l.fn.out.items ++ length l.names ∷ flat_map name_octets (take l.name-index l.names))
    × AllByRecursion IsNodeName (take l.name-index l.names)
