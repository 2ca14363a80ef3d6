use Rattle.std.proofs.Common.{◌≡◌, take}
use Rattle.std.specs.List.{list_any}
use Rattle.node_names.specs.Same.{same_origin}
use Rattle.node_names.specs.declared.ids.Origin.{Origin}
use Rattle.at_rest.specs.declared.branch.Branch.{Branch}
use Rattle.simulation.proofs.graph.parts.runs_of.Given as goal

-- the runs of the branches so far are there
abbrev pub invariant-loop-branch : goal.invariant-loop-branch
invariant-loop-branch g l =
    (o : Origin) → list_any (same_origin o) l.runs.keys ≡ list_any (λ (b : Branch). same_origin b.node o) (take l.branch-index l.branches)
