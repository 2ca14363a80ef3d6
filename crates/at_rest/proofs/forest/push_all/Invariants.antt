use Rattle.std.proofs.Common.{◌≡◌, ◌++◌, take}
use Rattle.node_names.specs.declared.ids.MsgId.{MsgId}
use Rattle.at_rest.specs.Forest.{branches_at}
use Rattle.at_rest.specs.Tree.{branches_from}
use Rattle.at_rest.proofs.forest.push_all.Given as goal

-- the deliveries so far have their branches
abbrev pub invariant-loop-delivery : goal.invariant-loop-delivery
invariant-loop-delivery g l =
    (id : MsgId) → branches_at id l.lists.entries ≡ branches_at id l.initial.lists.entries ++ branches_from id l.parent (take l.delivery-index l.given)
