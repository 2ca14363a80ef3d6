use Rattle.std.proofs.Common.{◌≡◌, take}
use Rattle.std.specs.Prelude.{reverse}
use Rattle.node_names.specs.declared.ids.MsgId.{MsgId}
use Rattle.at_rest.specs.Forest.{branches_at}
use Rattle.at_rest.specs.Tree.{tree_of}
use Rattle.at_rest.proofs.forest.lists.Given as goal

-- the entries so far have their branches
abbrev pub invariant-loop-entry : goal.invariant-loop-entry
invariant-loop-entry g l = (id : MsgId) → branches_at id l.lists.entries ≡ tree_of l.sent id (reverse (take l.entry-index l.log))
