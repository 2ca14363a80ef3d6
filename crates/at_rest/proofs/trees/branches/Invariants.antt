use Rattle.std.proofs.Common.{◌≡◌, take}
use Rattle.std.specs.Prelude.{reverse}
use Rattle.at_rest.specs.Tree.{tree_of}
use Rattle.at_rest.proofs.trees.branches.Given as goal

-- the entries so far have their branches
abbrev pub invariant-loop-entry : goal.invariant-loop-entry
invariant-loop-entry g l = l.tree.items ≡ tree_of l.sent l.id (reverse (take l.entry-index l.log))
