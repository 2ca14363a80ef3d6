-- What is copied is what the event sent and delivered.
use Rattle.std.proofs.Common.{◌∙◌, ap}
use Rattle.std.specs.Prelude.{map}
use Rattle.world.specs.Entry.{Entry}
use Rattle.trace_merge.specs.Projection.{output_of, said}
use Rattle.trace_merge.proofs.outputs.output_of.Goals as goal

pub returns : goal.returns
returns g c =
    (λ i. record {
      sends = (c.from_vec.ensures ∙ c.in_ok-sends.ensures ∙ ap (map said) c.between.ensures) i;
      deliveries = (c.from_vec-2.ensures ∙ c.in_ok-deliveries.ensures ∙ c.as_slice.ensures) i;
    })
    ∙ ap (λ (e : Entry). output_of e c.args.end c.args.sent.now) c.entry.view_is
