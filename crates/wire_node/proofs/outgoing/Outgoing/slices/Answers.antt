use Rattle.std.proofs.Common.{◌≡◌, ◌<◌, ◌++◌, ◌∙◌, [], ap, arith, drop, length, rules, subst, sym, take}
use Rattle.std.proofs.lemmas.Grind.{common_steps}
use Rattle.std.proofs.lemmas.List.{length-take-le}
use Rattle.wire_node.proofs.Fronts.{ComeFirst, none_first, one_first, second_within, two_first}
use Rattle.wire_node.proofs.outgoing.Outgoing.slices.Goals as goal

pub returns-in_default-clause-front : goal.returns-in_default-clause-front
returns-in_default-clause-front g c =
    let none : length c.self.inside.shared.items ≡ 0 = first_of (search rules, grind (arith, common_steps)) in
    (subst (ComeFirst (c.as_slice-text.result.now ++ [])) c.self.view_is (none_first _ _ _ none c.as_slice-text.ensures)).0

pub slice_bounds-result-end-in-Some-get : goal.slice_bounds-result-end-in-Some-get
slice_bounds-result-end-in-Some-get g c =
    let two : 1 < length c.self.inside.shared.items = first_of (search rules, grind (arith, common_steps)) in
    let back : c.split_at.result.1.now ≡ drop c.in-Some.field-0.now.0 c.self.inside.text.items =
    c.split_at.ensures.back ∙ ap (drop c.in-Some.field-0.now.0) c.as_slice-text.ensures in
    let within =
    second_within _ _ _ _ c.in-Some.field-0.now c.in-Some-get.field-0.now c.self.invariant two c.in-Some.ensures.lookup c.in-Some-get.ensures.lookup in
    sym (length-take-le c.in-Some-get.field-0.now.0 c.split_at.result.1.now (omega (arith, within, ap length back)))

pub returns-in-None-clause-front : goal.returns-in-None-clause-front
returns-in-None-clause-front g c =
    let one : length c.self.inside.shared.items ≡ 1 = first_of (search rules, grind (arith, common_steps)) in
    let s = c.in-Some.field-0.now in
    (subst (ComeFirst (c.split_at.result.0.now ++ (c.as_slice.result.now ++ (c.split_at.result.1.now ++ [])))) c.self.view_is
    (one_first _ _ s _ _ _ one c.in-Some.ensures.lookup
    (c.split_at.ensures.front ∙ ap (take s.0) c.as_slice-text.ensures)
    c.as_slice.ensures
    (c.split_at.ensures.back ∙ ap (drop s.0) c.as_slice-text.ensures))).0

pub returns-in-Some-get-clause-front : goal.returns-in-Some-get-clause-front
returns-in-Some-get-clause-front g c =
    let two : 1 < length c.self.inside.shared.items = first_of (search rules, grind (arith, common_steps)) in
    let s = c.in-Some.field-0.now in
    let t = c.in-Some-get.field-0.now in
    let back : c.split_at.result.1.now ≡ drop s.0 c.self.inside.text.items = c.split_at.ensures.back ∙ ap (drop s.0) c.as_slice-text.ensures in
    (subst (ComeFirst
    (c.split_at.result.0.now ++ (c.as_slice-in-Some-get.result.now ++ (take t.0 c.split_at.result.1.now ++ (c.as_slice-in-Some-get-2.result.now ++ [])))))
    c.self.view_is
    (two_first _ _ _ _ s t _ _ _ _ c.self.invariant two c.in-Some.ensures.lookup c.in-Some-get.ensures.lookup
    (c.split_at.ensures.front ∙ ap (take s.0) c.as_slice-text.ensures) c.as_slice-in-Some-get.ensures (ap (take t.0) back) c.as_slice-in-Some-get-2.ensures)).0

pub returns-in-Some-get-clause-some : goal.returns-in-Some-get-clause-some
returns-in-Some-get-clause-some g c =
    let two : 1 < length c.self.inside.shared.items = first_of (search rules, grind (arith, common_steps)) in
    let s = c.in-Some.field-0.now in
    let t = c.in-Some-get.field-0.now in
    let back : c.split_at.result.1.now ≡ drop s.0 c.self.inside.text.items = c.split_at.ensures.back ∙ ap (drop s.0) c.as_slice-text.ensures in
    (subst (ComeFirst
    (c.split_at.result.0.now ++ (c.as_slice-in-Some-get.result.now ++ (take t.0 c.split_at.result.1.now ++ (c.as_slice-in-Some-get-2.result.now ++ [])))))
    c.self.view_is
    (two_first _ _ _ _ s t _ _ _ _ c.self.invariant two c.in-Some.ensures.lookup c.in-Some-get.ensures.lookup
    (c.split_at.ensures.front ∙ ap (take s.0) c.as_slice-text.ensures) c.as_slice-in-Some-get.ensures (ap (take t.0) back) c.as_slice-in-Some-get-2.ensures)).1
