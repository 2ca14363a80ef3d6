use Rattle.node_names.specs.Slots.{somes}
use Rattle.missing.proofs.SlotWants.{by-grown}
use Rattle.missing.proofs.SoundLemmas.{sound-announced}
use Rattle.missing.proofs.missing.Missing.announce.Goals as goal

pub put-requires-clause-kept : goal.put-requires-clause-kept
put-requires-clause-kept g c = rw (c.in_ok-reserve.ensures.items, c.in_ok-reserve-2.ensures.entries) (
  c.self.invariant.1.0,
  by-grown c.self.inside.wants.peers.keys c.insert.new.self.keys c.args.peer.now
      (somes c.self.inside.wants.slots.items) c.in_ok-insert.ensures.updates.0 c.self.invariant.1.1,
)

pub invariant_of-self-2 : goal.invariant_of-self-2
invariant_of-self-2 g c = (
  rw (c.put.ensures.wants, c.put.ensures.timers, c.in_ok-reserve.ensures.items, c.in_ok-reserve-3.ensures.items)
      (sound-announced c.args.peer.now c.args.id.now c.args.round
      (record { wants = somes c.self.inside.wants.slots.items; timers = somes c.self.inside.timers.slots.items }) c.self.invariant.0),
  c.put.ensures.kept,
  c.put.ensures.timed,
)
