use Rattle.std.proofs.Common.{◌∙◌, take, ap}
use Rattle.node_names.specs.Slots.{somes}
use Rattle.missing.specs.Timers.{with_slot}
use Rattle.missing.proofs.TimerLemmas.{copy-step}
use Rattle.missing.proofs.timers.copy.Goals as goal

pub loop-slot-preserved : goal.loop-slot-preserved
loop-slot-preserved g c = (
  c.in_ok-arm_slot.ensures.timers
      ∙ ap (with_slot c.slot-item.result) c.loop-slot.invariant.0
      ∙ ap (λ slot. with_slot slot (somes (take c.loop-slot.slot-index c.as_slice-slot-items.result.now))) c.slot-item.is
      ∙ copy-step c.as_slice-slot-items.result.now c.loop-slot.slot-index c.slot-item.result
      (rw c.as_slice-slot-items.ensures.value c.requires.distinct) c.loop-slot-test.true,
  c.in_ok-arm_slot.ensures.timed,
)
