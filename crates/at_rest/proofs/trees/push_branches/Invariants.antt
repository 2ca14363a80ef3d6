use Rattle.std.proofs.Common.{◌≡◌, ◌++◌, take}
use Rattle.at_rest.specs.Tree.{branches_from}
use Rattle.at_rest.proofs.trees.push_branches.Given as goal

-- the deliveries of the message so far have their branches
abbrev pub invariant-loop-delivery : goal.invariant-loop-delivery
invariant-loop-delivery g l = l.tree.items ≡ l.initial.tree.items ++ branches_from l.id l.parent (take l.delivery-index l.given)
