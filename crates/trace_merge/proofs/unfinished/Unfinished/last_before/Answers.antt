-- The last run below is an earlier one of the name, or none is.
use Rattle.std.proofs.Common.{◌∙◌, sym}
use Rattle.std.specs.Prelude.{IfNone, None, Option, Some}
use Rattle.std.proofs.lemmas.Bool.{false≢true}
use Rattle.trace_merge.proofs.LeftLemmas.{earlier_less, none_earlier}
use Rattle.trace_merge.proofs.unfinished.Unfinished.last_before.Goals as goal

if_none : {X : Type 0} (found : Option X) (P : Type 0) → P → IfNone found P
if_none None P is = is
if_none (Some x) P is = tt

pub returns-in_err-run-clause-none : goal.returns-in_err-run-clause-none
returns-in_err-run-clause-none g c =
    if_none c.from_residual.result _ (λ one is. (c.range.ensures.in_range tt).5 c.in_err-run.ensures.steps.0 one (tt, earlier_less one c.args.origin.now is))

pub returns-else-is_earlier-clause-none : goal.returns-else-is_earlier-clause-none
returns-else-is_earlier-clause-none g c =
    none_earlier c.args.self.now.runs c.in_ok-run.run'.now c.args.origin.now
    (λ is. false≢true (sym c.if-is_earlier.false ∙ c.is_earlier.ensures.1 is))
    ((c.range.ensures.in_range tt).3 _ _ c.in_ok-run.ensures.steps).0.1
    (λ one is some. (c.range.ensures.in_range tt).4 _ _ c.in_ok-run.ensures.steps one (tt, earlier_less one c.args.origin.now is) some)
