-- The branches are those of the log's history, whose deliveries all have their parents.
use Rattle.std.proofs.Common.{sym, subst, [], List}
use Rattle.std.specs.List.{AllByRecursion as Each}
use Rattle.std.specs.Prelude.{reverse}
use Rattle.world.specs.Rest.{IsParent}
use Rattle.at_rest.specs.Tree.{LeadToOrigin}
use Rattle.at_rest.specs.declared.branch.Branch.{Branch}
use Rattle.at_rest.proofs.Leading.{parents_are, tree_leads}
use Rattle.at_rest.proofs.Oks.{ok-weaken}
use Rattle.at_rest.proofs.trees.tree.Goals as goal

pub returns-clause-parents : goal.returns-clause-parents
returns-clause-parents g c =
    ok-weaken c.branches.result _ _
    (λ tree is. subst (λ (bs : List Branch). Each (λ b. IsParent c.args.world.now.group.sent (reverse c.args.world.now.log) b.node c.args.id.now b.parent) bs)
    (sym (rw c.sent.ensures at (rw c.log.ensures at is)))
    (parents_are c.args.world.now.group.sent c.args.id.now (reverse c.args.world.now.log) c.headline.ensures.parents))
    c.branches.ensures

pub returns-clause-leads : goal.returns-clause-leads
returns-clause-leads g c =
    ok-weaken c.branches.result _ _
    (λ tree is. subst (λ (bs : List Branch). LeadToOrigin c.args.id.now [] bs)
    (sym (rw c.sent.ensures at (rw c.log.ensures at is)))
    (tree_leads c.args.world.now.group.sent c.args.id.now (reverse c.args.world.now.log) c.headline.ensures.parents))
    c.branches.ensures
