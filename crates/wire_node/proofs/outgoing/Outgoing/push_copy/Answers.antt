use Rattle.std.proofs.Common.{◌∙◌, ◌++◌, ap}
use Rattle.wire_node.proofs.Ends.{copied}
use Rattle.wire_node.proofs.outgoing.Outgoing.push_copy.Goals as goal

pub invariant_of-self-2 : goal.invariant_of-self-2
invariant_of-self-2 g c = (copied _ _ _ _ _ _ _ _ c.self.invariant c.in_ok-extend_from_slice.ensures.ok c.in-Some.ensures.1 c.in-Some-checked_add.ensures.1).0

pub returns-clause-ok : goal.returns-clause-ok
returns-clause-ok g c =
    (copied _ _ _ _ _ _ _ _ c.self.invariant c.in_ok-extend_from_slice.ensures.ok c.in-Some.ensures.1 c.in-Some-checked_add.ensures.1).1
    ∙ ap (λ t. t ++ c.args.more.now) c.self.view_is
