-- The packets and the delivery are appended.
use Rattle.std.proofs.Common.{◌≡◌, ◌∙◌, ◌++◌, Ok, Err, Some, false, ap, sym}
use Rattle.std.specs.Prelude.{OnOk, Result, is_err}
use Rattle.std.proofs.lemmas.Bool.{true≢false}
use Rattle.protocol.specs.Output.{Output}
use Rattle.frames.specs.Frame.{Frame}
use Rattle.gossip_core.specs.Answers.{pushes}
use Rattle.node_core.specs.Steps.{appended, delivered_at}
use Rattle.node_core.proofs.output.append_message.Goals as goal

from_ok : {T E : Type 0} (r : Result T E) (P : Type 0) → OnOk r P → is_err r ≡ false → P
from_ok (Ok x) P fact is = fact
from_ok (Err e) P fact is = absurd (true≢false is)

pub returns-clause-ok : goal.returns-clause-ok
returns-clause-ok g c =
    from_ok c.deliver.result _ c.deliver.ensures.ok (sym c.is_err.ensures.value ∙ c.if-is_err.false)
    ∙ (λ i. record {
      sends = c.in-Ok.ensures.ok i;
      deliveries = c.out.inside.deliveries ++ delivered_at c.args.me.now (Some (c.args.spread.now.id, c.args.spread.now.payload.now));
    })
    ∙ ap (λ (o : Output Frame). appended c.args.me.now c.args.framed (pushes c.args.spread.now ++ c.args.others)
    (Some (c.args.spread.now.id, c.args.spread.now.payload.now)) o) c.out.view_is
