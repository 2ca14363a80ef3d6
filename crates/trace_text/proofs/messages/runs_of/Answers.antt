-- One run more, and at the end there are all.
use Rattle.std.proofs.Common.{◌≡◌, List, subst}
use Rattle.std.specs.List.{list_any}
use Rattle.std.proofs.lemmas.List.{take_all}
use Rattle.node_names.specs.Same.{same_origin}
use Rattle.at_rest.specs.declared.branch.Branch.{Branch}
use Rattle.trace_text.proofs.Delivering.{runs-more}
use Rattle.trace_text.proofs.messages.runs_of.Goals as goal

pub loop-branch-preserved : goal.loop-branch-preserved
loop-branch-preserved g c run =
    runs-more c.args.branches.now c.loop-branch.branch-index c.branch-item.result run _ _ c.loop-branch-test.true c.branch-item.is
    (c.loop-branch.invariant run) (c.in_ok-insert.ensures.updates.0 run)

pub returns : goal.returns
returns g c run =
    let Whole : List Branch → Type 0 = λ bs. list_any (same_origin run) c.loop-branch.runs.keys ≡ list_any (λ b. same_origin b.node run) bs in
    subst Whole (take_all c.loop-branch.branch-index c.args.branches.now c.loop-branch-test.false) (c.loop-branch.invariant run)
