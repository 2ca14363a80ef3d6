-- The traces are played from nothing, and are all played out or stuck.
use Rattle.std.proofs.Common.{◌∙◌, ap, refl, subst, sym}
use Rattle.std.specs.Prelude.{IfNone}
use Rattle.trace_merge.specs.Held.{AreHeld, AreOut}
use Rattle.trace_merge.specs.Merging.{AreDistinct, IsMerging, Merge}
use Rattle.trace_merge.proofs.group_run.merge.Goals as goal

pub play_all-requires-clause-merging : goal.play_all-requires-clause-merging
play_all-requires-clause-merging g c =
    subst (λ l. IsMerging l c.args.traces.now c.in_ok-merging.merging)
    (sym c.in_ok-merging.ensures.limits) (c.in_ok-merging.ensures.merging c.args.traces.now refl)

pub into_events-requires-clause-distinct : goal.into_events-requires-clause-distinct
into_events-requires-clause-distinct g c = subst (λ o. IfNone o (AreDistinct c.args.traces.now)) c.in_default.is c.in_ok-origin.ensures.distinct

pub into_events-requires-clause-out : goal.into_events-requires-clause-out
into_events-requires-clause-out g c =
    subst (AreOut c.args.traces.now) (c.deref.ensures.value ∙ ap (λ (m : Merge). m.places) c.merging.view_is) c.in-None.ensures.out

pub returns-in-Some-first_left-clause-refused : goal.returns-in-Some-first_left-clause-refused
returns-in-Some-first_left-clause-refused g c = (
  subst (λ o. IfNone o (AreDistinct c.args.traces.now)) c.in_default.is c.in_ok-origin.ensures.distinct,
  c.in-Some-first_left.ensures.stuck
      (subst (AreHeld c.args.traces.now) (sym (c.deref.ensures.value ∙ ap (λ (m : Merge). m.places) c.merging.view_is)) c.in_ok-play_all.ensures.held),
)
