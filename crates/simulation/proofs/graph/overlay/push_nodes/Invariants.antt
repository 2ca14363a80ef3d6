use Rattle.std.proofs.Common.{◌≡◌, ◌++◌, string_bytes, take}
use Rattle.simulation.specs.Graph.{overlay_lines}
use Rattle.simulation.proofs.graph.overlay.push_nodes.Given as goal

abbrev pub invariant-loop-node : goal.invariant-loop-node
invariant-loop-node g l = string_bytes l.text ≡ string_bytes l.initial.text ++ overlay_lines (take l.node-index l.nodes)
