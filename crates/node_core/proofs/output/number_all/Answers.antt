use Rattle.std.proofs.Common.{◌+◌, ◌++◌, ◌∷◌, [], sym, ap, ◌∙◌, append_assoc, arith, length, length-append, take, Ok, Err}
use Rattle.std.specs.Prelude.{OnErr, Result}
use Rattle.std.proofs.Math.Seq.{take-append_seam}
use Rattle.node_core.specs.Steps.{numbered}
use Rattle.node_core.proofs.Frames.{middle_fits, numbered-push}
use Rattle.node_core.proofs.output.number_all.Goals as goal

pub push_frame-requires-clause-fit : goal.push_frame-requires-clause-fit
push_frame-requires-clause-fit g c =
    middle_fits c.loop-to.yielded c.next.new.self.rest.items (c.in-Some.to, c.in-Some.body) c.args.bodies
    (ap (λ rest. c.loop-to.yielded ++ rest) (sym c.in-Some.ensures.steps.0) ∙ c.loop-to.invariant.2) c.requires.fit

pub loop-to-preserved : goal.loop-to-preserved
loop-to-preserved g c = (
  tt,
  tt,
  append_assoc c.loop-to.yielded ((c.in-Some.to, c.in-Some.body) ∷ []) c.next.new.self.rest.items
      ∙ ap (λ rest. c.loop-to.yielded ++ rest) (sym c.in-Some.ensures.steps.0)
      ∙ c.loop-to.invariant.2,
  omega (arith, c.loop-to.invariant.3, length-append c.loop-to.yielded ((c.in-Some.to, c.in-Some.body) ∷ [])),
  c.in_ok-push_frame.ensures.ok
      ∙ ap (λ frames. frames ++ (c.in-Some.to, record { sender = c.args.me.now; number = c.loop-to.number + 1; body = c.in-Some.body }) ∷ [])
      c.loop-to.invariant.4
      ∙ append_assoc c.args.frames.now (numbered c.args.me.now c.args.framed c.loop-to.yielded)
      ((c.in-Some.to, record { sender = c.args.me.now; number = c.loop-to.number + 1; body = c.in-Some.body }) ∷ [])
      ∙ ap (λ frames. c.args.frames.now ++ frames)
      (sym (numbered-push c.args.me.now c.args.framed c.loop-to.yielded (c.in-Some.to, c.in-Some.body) c.loop-to.number c.loop-to.invariant.3)),
)

on_err : {T E : Type 0} (r : Result T E) (P : Type 0) → P → OnErr r P
on_err (Ok x) P fact = tt
on_err (Err e) P fact = fact

pub returns-in_err-push_frame-clause-err : goal.returns-in_err-push_frame-clause-err
returns-in_err-push_frame-clause-err g c =
    on_err _ _ (ap (take (length c.args.frames.now)) (c.in_err-push_frame.ensures.err ∙ c.loop-to.invariant.4)
    ∙ take-append_seam c.args.frames.now (numbered c.args.me.now c.args.framed c.loop-to.yielded))
