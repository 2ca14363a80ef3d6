use Rattle.std.proofs.Common.{◌≡◌, ◌++◌, string_bytes, take}
use Rattle.trace_text.specs.Ends.{lacking_lines}
use Rattle.trace_text.proofs.messages.push_lacking.Given as goal

abbrev pub invariant-loop-node : goal.invariant-loop-node
invariant-loop-node g l = string_bytes l.text ≡ string_bytes l.initial.text ++ lacking_lines l.branches (take l.node-index l.nodes)
