use Rattle.std.proofs.Common.{[], ◌∷◌, ◌++◌, ap, ◌∙◌, append_assoc}
use Rattle.links.proofs.Giving.{begins_more, next_cuts}
use Rattle.links.proofs.pumping.give.Goals as goal

pub loop-frame-preserved : goal.loop-frame-preserved
loop-frame-preserved g c = (
  c.loop-frame.invariant.0 ++ c.in-Ok-Some.frame ∷ [],
  c.if-not-frame.ensures.took
      ∙ ap (λ s. s ++ c.in-Ok-Some.frame ∷ []) c.loop-frame.invariant.1
      ∙ append_assoc _ c.loop-frame.invariant.0 (c.in-Ok-Some.frame ∷ []),
  begins_more _ _ _ _ _ c.loop-frame.invariant.2 (next_cuts _ _ _ _ c.in-Ok-Some.ensures.next c.in-Ok-Some.field-0-is),
  c.if-not-frame.ensures.willing ∙ c.loop-frame.invariant.3,
)
