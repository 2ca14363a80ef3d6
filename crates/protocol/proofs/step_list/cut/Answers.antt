use Rattle.std.proofs.Common.{◌∙◌, ap, sym, subst, arith, set, vec_len, ◌-◌, take, rules}
use Rattle.protocol.specs.Segments.{Abut, BeginBefore, Segment, joined}
use Rattle.protocol.proofs.Segments.{left_of, none_left}
use Rattle.protocol.proofs.step_list.cut.Goals as goal

pub overflow_sub-place : goal.overflow_sub-place
overflow_sub-place g c =
    let begun = subst (λ xs. BeginBefore c.args.place xs c.begun_before-begun.result) c.deref.ensures.value c.begun_before-begun.ensures in
    omega (
      arith,
      c.first.ensures,
      (left_of c.args.parts.now.items c.truncate.new.self.items c.args.place c.begun_before-begun.result
          (vec_len c.truncate.new.self) c.in-Some.last.now c.requires begun c.truncate.ensures.items (search rules) (search rules) c.in-Some.ensures.value).0,
    )

pub returns-in-Some-clause-abut : goal.returns-in-Some-clause-abut
returns-in-Some-clause-abut g c =
    let begun = subst (λ xs. BeginBefore c.args.place xs c.begun_before-begun.result) c.deref.ensures.value c.begun_before-begun.ensures in
    let left =
    (left_of c.args.parts.now.items c.truncate.new.self.items c.args.place c.begun_before-begun.result
    (vec_len c.truncate.new.self) c.in-Some.last.now c.requires begun c.truncate.ensures.items (search rules) (search rules) c.in-Some.ensures.value).1 in
    let last =
    c.truncate-in-Some.ensures
    ∙ ap (λ n. record { first = c.in-Some.last.now.first; steps = take (c.args.place - n) c.in-Some.last.now.steps }) c.first.ensures in
    subst (λ (s : Segment g.row.N.Denot). Abut 0 (set c.truncate.new.self.items (vec_len c.truncate.new.self - 1) s)) (sym last) left.abut

pub returns-in-Some-clause-steps : goal.returns-in-Some-clause-steps
returns-in-Some-clause-steps g c =
    let begun = subst (λ xs. BeginBefore c.args.place xs c.begun_before-begun.result) c.deref.ensures.value c.begun_before-begun.ensures in
    let left =
    (left_of c.args.parts.now.items c.truncate.new.self.items c.args.place c.begun_before-begun.result
    (vec_len c.truncate.new.self) c.in-Some.last.now c.requires begun c.truncate.ensures.items (search rules) (search rules) c.in-Some.ensures.value).1 in
    let last =
    c.truncate-in-Some.ensures
    ∙ ap (λ n. record { first = c.in-Some.last.now.first; steps = take (c.args.place - n) c.in-Some.last.now.steps }) c.first.ensures in
    ap (λ (s : Segment g.row.N.Denot). joined (set c.truncate.new.self.items (vec_len c.truncate.new.self - 1) s)) last ∙ left.steps

pub returns-in_default-clause-steps : goal.returns-in_default-clause-steps
returns-in_default-clause-steps g c =
    let begun = subst (λ xs. BeginBefore c.args.place xs c.begun_before-begun.result) c.deref.ensures.value c.begun_before-begun.ensures in
    (none_left c.args.parts.now.items c.truncate.new.self.items c.args.place c.begun_before-begun.result c.requires begun c.truncate.ensures.items
    (search rules)).steps
