use Rattle.std.proofs.Common.{◌-◌, ◌∙◌, ap, sym, arith}
use Rattle.std.specs.List.{slice_get}
use Rattle.protocol.proofs.Segments.{found_in, some_before}
use Rattle.protocol.proofs.step_list.step_in.Goals as goal

pub overflow_sub-part : goal.overflow_sub-part
overflow_sub-part g c =
    some_before 0 c.args.parts.now c.args.place c.begun_before-begun.result c.requires.abut
    (omega arith) (omega (arith, c.requires.inside)) c.begun_before-begun.ensures

pub overflow_sub-place : goal.overflow_sub-place
overflow_sub-place g c = omega (
  arith,
  c.first.ensures,
  (found_in c.args.parts.now c.args.place c.begun_before-begun.result c.index-parts-begun.result
      c.requires.abut c.requires.inside c.begun_before-begun.ensures c.index-parts-begun.is).begun,
)

pub returns : goal.returns
returns g c =
    let f =
    found_in c.args.parts.now c.args.place c.begun_before-begun.result c.index-parts-begun.result
    c.requires.abut c.requires.inside c.begun_before-begun.ensures c.index-parts-begun.is in
    c.get.ensures ∙ ap (λ n. slice_get c.index-parts-begun.result.steps (c.args.place - n)) c.first.ensures ∙ sym f.step
