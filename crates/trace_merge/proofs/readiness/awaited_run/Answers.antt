-- A run is awaited, or taken out since its trace is played out.
use Rattle.std.proofs.Common.{◌∙◌, ◌<◌, ap, subst, sym}
use Rattle.std.proofs.lemmas.Bool.{false≢true}
use Rattle.node_names.specs.declared.ids.Origin.{Origin}
use Rattle.trace_merge.proofs.LeftLemmas.{left_fewer}
use Rattle.trace_merge.proofs.readiness.awaited_run.Goals as goal

pub returns-then-not-is_out_at-clause-awaits : goal.returns-then-not-is_out_at-clause-awaits
returns-then-not-is_out_at-clause-awaits g c =
    let its = c.loop-run.invariant.named c.in-Some.run' c.in-Some.at c.in-Some.ensures.listed in
    record {
      at = c.in-Some.at;
      earlier = its.0;
      listed = its.1;
      same = ap (λ (o : Origin). o.name) its.2 ∙ c.in-Some.ensures.earlier.0;
      lower = subst (λ (o : Origin). o.incarnation.0 < c.args.origin.now.incarnation.0) (sym its.2) c.in-Some.ensures.earlier.1;
      left = λ out. false≢true (sym c.if-not-is_out_at.true ∙ (c.is_out_at.ensures its.0 its.1).1 out);
    }

pub loop-run-preserved : goal.loop-run-preserved
loop-run-preserved g c =
    left_fewer c.args.traces.now c.args.places.now c.in-Some.run' c.in-Some.at c.loop-run.left.runs
    c.remove.new.self.runs c.requires.distinct c.loop-run.invariant c.in-Some.ensures.listed
    (λ t listed. (c.is_out_at.ensures t listed).0 c.if-not-is_out_at.false)
    c.remove.ensures.updates.0
