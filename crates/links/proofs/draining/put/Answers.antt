use Rattle.std.proofs.Common.{◌∙◌}
use Rattle.links.proofs.Writing.{put_on}
use Rattle.links.proofs.draining.put.Goals as goal

pub loop-at-preserved : goal.loop-at-preserved
loop-at-preserved g c =
    let on = put_on _ _ _ c.args.bytes.now c.loop-at.at c.in-Ok.n c.loop-at.invariant.0 c.loop-at.invariant.1 c.in-Ok.ensures.bound c.in-Ok.ensures.bytes in
    (on.0, on.1, c.in-Ok.ensures.ok ∙ c.loop-at.invariant.2)
