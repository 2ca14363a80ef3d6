use Rattle.std.proofs.Common.{arith}
use Rattle.record_merge.proofs.Delivering.{step_on}
use Rattle.record_merge.proofs.group.add_deliveries.Goals as goal

pub loop-place-preserved : goal.loop-place-preserved
loop-place-preserved c =
    step_on c.args.trace.now.steps c.loop-place.place c.args.deliveries.now.items c.loop-place.deliveries.items c.add_step.new.deliveries.items
    (omega arith) c.loop-place.invariant c.in_ok-add_step.ensures
