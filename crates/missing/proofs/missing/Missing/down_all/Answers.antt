use Rattle.node_names.specs.Slots.{somes}
use Rattle.missing.proofs.SoundLemmas.{sound-without_all}
use Rattle.missing.proofs.missing.Missing.down_all.Goals as goal

pub invariant_of-self : goal.invariant_of-self
invariant_of-self g c = (
  rw c.remove_peers.ensures.left (sound-without_all c.args.peers.now
      (record { wants = somes c.self.inside.wants.slots.items; timers = somes c.self.inside.timers.slots.items }) c.self.invariant.0),
  c.remove_peers.ensures.kept,
  c.self.invariant.2,
)
