use Rattle.std.proofs.Common.{◌≡◌, ◌++◌, string_bytes, take}
use Rattle.trace_text.specs.Ends.{node_lines}
use Rattle.trace_text.proofs.nodes.push_lines.Given as goal

abbrev pub invariant-loop-node : goal.invariant-loop-node
invariant-loop-node g l = string_bytes l.text ≡ string_bytes l.initial.text ++ node_lines (take l.node-index l.nodes)
