-- A trace that is ready may start.
use Rattle.std.proofs.Common.{◌∙◌, ap, subst}
use Rattle.node_names.specs.declared.ids.Origin.{Origin}
use Rattle.trace_merge.specs.Merging.{IsReady, Merge}
use Rattle.trace_merge.proofs.merging.Merging.start_ready.Goals as goal

pub start-requires-clause-ready : goal.start-requires-clause-ready
start-requires-clause-ready g c =
    subst (λ (o : Origin). IsReady c.args.traces.now c.args.self.now.places o) c.origin.ensures
    (subst (λ places. IsReady c.args.traces.now places c.origin.result) (c.deref.ensures.value ∙ ap (λ (m : Merge). m.places) c.self.view_is)
    (c.is_ready.ensures.ready c.if-not-is_ready.false))
