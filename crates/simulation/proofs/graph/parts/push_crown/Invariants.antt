use Rattle.std.proofs.Common.{◌≡◌, ◌++◌, string_bytes, take}
use Rattle.simulation.specs.Graph.{crown_lines}
use Rattle.simulation.proofs.graph.parts.push_crown.Given as goal

abbrev pub invariant-loop-branch : goal.invariant-loop-branch
invariant-loop-branch g l = string_bytes l.text ≡ string_bytes l.initial.text ++ crown_lines l.id (take l.branch-index l.branches)
