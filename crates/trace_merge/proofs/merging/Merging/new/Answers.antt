-- Nothing is played yet.
use Rattle.std.proofs.Common.{◌∙◌, ap, subst, sym}
use Rattle.std.specs.Prelude.{None, replicate}
use Rattle.trace_merge.specs.Merging.{IsMerging}
use Rattle.trace_merge.proofs.EndLemmas.{begins}
use Rattle.trace_merge.proofs.merging.Merging.new.Goals as goal

pub returns-clause-merging : goal.returns-clause-merging
returns-clause-merging g c traces counted =
    subst (IsMerging c.args.limits traces)
    (sym (λ i. record {
      world =
          record {
            limits = c.new.ensures.limits i;
            group = record { nodes = c.new.ensures.nodes i; sent = c.new.ensures.sent i; flight = c.new.ensures.flight i };
            log = c.new.ensures.log i;
          };
      events = c.new-2.ensures.items i;
      places = (c.in_ok-unstarted.ensures ∙ ap (λ n. replicate n None) (sym counted)) i;
      frames = c.new-3.ensures i;
    }))
    (begins c.args.limits traces)
