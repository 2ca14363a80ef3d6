use Rattle.std.proofs.Common.{◌≡◌, ◌++◌, string_bytes, take}
use Rattle.simulation.specs.Trees.{branch_lines}
use Rattle.simulation.proofs.trees.push_branches.Given as goal

abbrev pub invariant-loop-branch : goal.invariant-loop-branch
invariant-loop-branch g l = string_bytes l.text ≡ string_bytes l.initial.text ++ branch_lines (take l.branch-index l.branches)
