use Rattle.node_names.specs.Slots.{somes}
use Rattle.missing.proofs.SoundLemmas.{sound-without}
use Rattle.missing.proofs.missing.Missing.down.Goals as goal

pub invariant_of-self : goal.invariant_of-self
invariant_of-self g c = (
  rw c.remove_peer.ensures.left (sound-without c.args.peer.now
      (record { wants = somes c.self.inside.wants.slots.items; timers = somes c.self.inside.timers.slots.items }) c.self.invariant.0),
  c.remove_peer.ensures.kept,
  c.self.invariant.2,
)
