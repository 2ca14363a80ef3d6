use Rattle.std.proofs.Common.{◌≡◌, ◌<◌, ◌≤◌, ◌∙◌, ap, arith, drop, length}
use Rattle.wire_node.proofs.Ends.{inset_goes, inset_went, least, text_before_goes}
use Rattle.wire_node.proofs.outgoing.Outgoing.advance_first.Goals as goal

pub returns-then-before-gt0-clause-left : goal.returns-then-before-gt0-clause-left
returns-then-before-gt0-clause-left g c =
    let few : c.min-taken.result ≤ c.in-Some.before = (least _ _ _ c.min-taken.ensures).1 in
    (text_before_goes _ _ _ _ _ c.in-Some.before c.in-Some.first c.self.inside.tail c.self.inside.len c.min-taken.result
    c.self.invariant c.in-Some.ensures.items few c.advance-then-before-gt0.ensures.items c.push_front_reserved.ensures.items).1
    ∙ ap (drop c.min-taken.result) c.self.view_is

pub invariant_of-self-then-taken-len : goal.invariant_of-self-then-taken-len
invariant_of-self-then-taken-len g c =
    let none : c.in-Some.before ≡ 0 = omega (arith, c.if-before-gt0.false) in
    let part : c.min-taken-2.result < length c.in-Some.first = omega (arith, c.if-taken-len.true, c.len-2.ensures.value) in
    (inset_goes _ _ _ _ c.in-Some.before c.in-Some.first _ c.self.inside.tail c.self.inside.len c.min-taken-2.result c.self.invariant
    c.in-Some.ensures.items none part c.advance-then-taken-len.ensures c.push_front_reserved-then-taken-len.ensures.items).0

pub returns-then-taken-len-clause-left : goal.returns-then-taken-len-clause-left
returns-then-taken-len-clause-left g c =
    let none : c.in-Some.before ≡ 0 = omega (arith, c.if-before-gt0.false) in
    let part : c.min-taken-2.result < length c.in-Some.first = omega (arith, c.if-taken-len.true, c.len-2.ensures.value) in
    (inset_goes _ _ _ _ c.in-Some.before c.in-Some.first _ c.self.inside.tail c.self.inside.len c.min-taken-2.result c.self.invariant
    c.in-Some.ensures.items none part c.advance-then-taken-len.ensures c.push_front_reserved-then-taken-len.ensures.items).1
    ∙ ap (drop c.min-taken-2.result) c.self.view_is

pub invariant_of-self-else-taken-len : goal.invariant_of-self-else-taken-len
invariant_of-self-else-taken-len g c =
    let none : c.in-Some.before ≡ 0 = omega (arith, c.if-before-gt0.false) in
    let all : c.min-taken-2.result ≡ length c.in-Some.first =
    omega (arith, c.if-taken-len.false, c.len-2.ensures.value, c.len.ensures.value, (least _ _ _ c.min-taken-2.ensures).1) in
    (inset_went _ _ _ c.in-Some.before c.in-Some.first c.self.inside.tail c.self.inside.len
    c.min-taken-2.result c.self.invariant c.in-Some.ensures.items none all).0
