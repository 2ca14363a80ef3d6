-- A step appends one branch's line.
use Rattle.std.proofs.Common.{refl}
use Rattle.trace_text.proofs.Texts.{joined, lines-more}
use Rattle.simulation.specs.Trees.{branch_line, branch_lines}
use Rattle.simulation.proofs.trees.push_branches.Goals as goal

pub loop-branch-preserved : goal.loop-branch-preserved
loop-branch-preserved g c =
    joined _ _ _ _ _ _ c.in_ok-push_branch.ensures c.loop-branch.invariant (lines-more branch_line branch_lines refl
    (λ x xs. refl) c.args.branches.now c.loop-branch.branch-index c.branch-item.result c.branch-item.result c.loop-branch-test.true c.branch-item.is)
