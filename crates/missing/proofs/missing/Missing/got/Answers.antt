use Rattle.node_names.specs.Slots.{somes}
use Rattle.missing.proofs.SoundLemmas.{sound-got}
use Rattle.missing.proofs.missing.Missing.got.Goals as goal

pub invariant_of-self : goal.invariant_of-self
invariant_of-self g c = (
  rw (c.remove_id.ensures.left, c.disarm.ensures.timers)
      (sound-got c.args.id.now (record { wants = somes c.self.inside.wants.slots.items; timers = somes c.self.inside.timers.slots.items }) c.self.invariant.0),
  c.remove_id.ensures.kept,
  c.disarm.ensures.timed,
)
