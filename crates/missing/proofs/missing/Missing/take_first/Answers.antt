use Rattle.node_names.specs.Slots.{somes}
use Rattle.missing.proofs.SoundLemmas.{sound-taken_first}
use Rattle.missing.proofs.missing.Missing.take_first.Goals as goal

pub invariant_of-self : goal.invariant_of-self
invariant_of-self g c = (
  rw (c.take_first.ensures.wants, c.take_first.ensures.timers) (sound-taken_first c.args.id.now
      (record { wants = somes c.self.inside.wants.slots.items; timers = somes c.self.inside.timers.slots.items }) c.self.invariant.0),
  c.take_first.ensures.kept,
  c.take_first.ensures.timed,
)
