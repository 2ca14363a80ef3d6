use Rattle.std.proofs.Common.{◌∙◌, None, ap, append-nil, sym}
use Rattle.protocol.specs.Output.{Output}
use Rattle.frames.specs.Frame.{Frame}
use Rattle.node_core.specs.Steps.{appended}
use Rattle.node_core.proofs.output.append_list.Goals as goal

pub returns-in-Ok-clause-ok : goal.returns-in-Ok-clause-ok
returns-in-Ok-clause-ok g c =
    (λ i. record { sends = c.in-Ok.ensures.ok i; deliveries = sym (append-nil c.out.inside.deliveries) i })
    ∙ ap (λ (o : Output Frame). appended c.args.me.now c.args.framed c.args.sends None o) c.out.view_is
