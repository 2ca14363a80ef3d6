use Rattle.std.proofs.Common.{◌≡◌, ◌<◌, ◌≤◌, ◌-◌, ◌∙◌, ap, arith, length, take}
use Rattle.wire_node.proofs.Ends.{inset_cut, inset_gone, least, text_cut}
use Rattle.wire_node.proofs.outgoing.Outgoing.cut_last.Goals as goal

pub invariant_of-self : goal.invariant_of-self
invariant_of-self g c =
    let few : c.min-cut.result ≤ c.self.inside.tail = (least _ _ _ c.min-cut.ensures).1 in
    (text_cut _ _ _ _ _ c.min-cut.result _ c.self.invariant few c.len.ensures.value c.truncate.ensures.items).0

pub returns-then-self-gt0-clause-left : goal.returns-then-self-gt0-clause-left
returns-then-self-gt0-clause-left g c =
    let few : c.min-cut.result ≤ c.self.inside.tail = (least _ _ _ c.min-cut.ensures).1 in
    (text_cut _ _ _ _ _ c.min-cut.result _ c.self.invariant few c.len.ensures.value c.truncate.ensures.items).1
    ∙ ap (λ t. take (length t - c.min-cut.result) t) c.self.view_is

pub invariant_of-self-then-cut-len : goal.invariant_of-self-then-cut-len
invariant_of-self-then-cut-len g c =
    let none : c.self.inside.tail ≡ 0 = omega (arith, c.if-self-gt0.false) in
    let part : c.min-cut-2.result < length c.in-Some.last = omega (arith, c.if-cut-len.true, c.len-3.ensures.value) in
    (inset_cut _ _ _ _ _ _ _ _ _ c.min-cut-2.result _ c.self.invariant none c.in-Some.ensures.items part
    c.len-then-cut-len.ensures.value c.truncate-then-cut-len.ensures c.push_back_reserved.ensures.items).0

pub returns-then-cut-len-clause-left : goal.returns-then-cut-len-clause-left
returns-then-cut-len-clause-left g c =
    let none : c.self.inside.tail ≡ 0 = omega (arith, c.if-self-gt0.false) in
    let part : c.min-cut-2.result < length c.in-Some.last = omega (arith, c.if-cut-len.true, c.len-3.ensures.value) in
    (inset_cut _ _ _ _ _ _ _ _ _ c.min-cut-2.result _ c.self.invariant none c.in-Some.ensures.items part
    c.len-then-cut-len.ensures.value c.truncate-then-cut-len.ensures c.push_back_reserved.ensures.items).1
    ∙ ap (λ t. take (length t - c.min-cut-2.result) t) c.self.view_is

pub invariant_of-self-2 : goal.invariant_of-self-2
invariant_of-self-2 g c =
    let none : c.self.inside.tail ≡ 0 = omega (arith, c.if-self-gt0.false) in
    let all : c.min-cut-2.result ≡ length c.in-Some.last =
    omega (arith, c.if-cut-len.false, c.len-3.ensures.value, c.len-2.ensures.value, (least _ _ _ c.min-cut-2.ensures).1) in
    (inset_gone _ _ _ _ _ _ _ c.min-cut-2.result c.self.invariant none c.in-Some.ensures.items all).0

pub returns-clause-left : goal.returns-clause-left
returns-clause-left g c =
    let none : c.self.inside.tail ≡ 0 = omega (arith, c.if-self-gt0.false) in
    let all : c.min-cut-2.result ≡ length c.in-Some.last =
    omega (arith, c.if-cut-len.false, c.len-3.ensures.value, c.len-2.ensures.value, (least _ _ _ c.min-cut-2.ensures).1) in
    (inset_gone _ _ _ _ _ _ _ c.min-cut-2.result c.self.invariant none c.in-Some.ensures.items all).1
    ∙ ap (λ t. take (length t - c.min-cut-2.result) t) c.self.view_is
