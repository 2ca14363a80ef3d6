use Rattle.std.proofs.Common.{◌≡◌, ◌<◌, ◌+◌, ◌∙◌, ◌++◌, ap, arith, length, rules}
use Rattle.wire_node.proofs.Ends.{set_in}
use Rattle.wire_node.proofs.outgoing.Outgoing.push_shared.Goals as goal

pub invariant_of-self-2 : goal.invariant_of-self-2
invariant_of-self-2 g c =
    let some : 0 < length c.args.more = search rules in
    let at = c.in_ok-push_back.ensures.items in
    let long : c.in-Some.len ≡ c.self.inside.len + length c.args.more = omega (arith, c.in-Some.ensures.1, c.len.ensures.value) in
    (set_in _ _ _ _ _ c.in-Some.len c.args.more c.self.invariant at some long).0

pub returns-clause-ok : goal.returns-clause-ok
returns-clause-ok g c =
    let some : 0 < length c.args.more = search rules in
    let at = c.in_ok-push_back.ensures.items in
    let long : c.in-Some.len ≡ c.self.inside.len + length c.args.more = omega (arith, c.in-Some.ensures.1, c.len.ensures.value) in
    (set_in _ _ _ _ _ c.in-Some.len c.args.more c.self.invariant at some long).1 ∙ ap (λ t. t ++ c.args.more) c.self.view_is
