use Rattle.std.proofs.Common.{◌≡◌, ◌++◌, string_bytes, take}
use Rattle.simulation.specs.Graph.{flying_lines}
use Rattle.simulation.proofs.graph.flying.push_each.Given as goal

abbrev pub invariant-loop-number : goal.invariant-loop-number
invariant-loop-number g l = string_bytes l.text ≡ string_bytes l.initial.text ++ flying_lines l.id l.group.group (take l.number-index l.numbers)
