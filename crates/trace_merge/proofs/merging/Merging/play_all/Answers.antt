-- Where a pass plays nothing all traces are held.
use Rattle.std.proofs.Common.{◌∙◌, Ok, ap, subst, sym}
use Rattle.trace_merge.specs.Held.{AreHeld}
use Rattle.trace_merge.specs.Merging.{Merge}
use Rattle.trace_merge.proofs.merging.Merging.play_all.Goals as goal

pub returns-clause-held : goal.returns-clause-held
returns-clause-held g c =
    let none = c.in_ok-pass.was ∙ ap Ok c.if-branch.false in
    subst (λ (m : Merge). AreHeld c.args.traces.now m.places) (sym (c.pass.ensures.same none)) (c.pass.ensures.waits none)
