use Rattle.std.proofs.Common.{◌≡◌, ◌++◌, string_bytes, take}
use Rattle.simulation.specs.Graph.{lacking_lines}
use Rattle.simulation.proofs.graph.parts.push_each_lacking.Given as goal

abbrev pub invariant-loop-node : goal.invariant-loop-node
invariant-loop-node g l = string_bytes l.text ≡ string_bytes l.initial.text ++ lacking_lines l.id l.branches (take l.node-index l.nodes)
