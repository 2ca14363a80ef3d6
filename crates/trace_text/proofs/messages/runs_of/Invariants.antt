use Rattle.std.proofs.Common.{◌≡◌, take}
use Rattle.std.specs.List.{list_any}
use Rattle.node_names.specs.Same.{same_origin}
use Rattle.node_names.specs.declared.ids.Origin.{Origin}
use Rattle.trace_text.proofs.messages.runs_of.Given as goal

-- the runs so far are in the set
abbrev pub invariant-loop-branch : goal.invariant-loop-branch
invariant-loop-branch g l = (run : Origin) → list_any (same_origin run) l.runs.keys ≡ list_any (λ b. same_origin b.node run) (take l.branch-index l.branches)
