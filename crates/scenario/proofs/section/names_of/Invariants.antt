use Rattle.std.proofs.Common.{◌≡◌, All, take}
use Rattle.toml.specs.View.{items_view}
use Rattle.node_names.specs.NodeName.{IsNodeName}
use Rattle.scenario.specs.Reading.{texts}
use Rattle.scenario.proofs.section.names_of.Given as goal

abbrev pub invariant-loop-value : goal.invariant-loop-value
invariant-loop-value l = (items_view (take l.value-index l.values) ≡ texts l.names) × All IsNodeName l.names
