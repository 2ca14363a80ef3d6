use Rattle.node_names.specs.Slots.{somes}
use Rattle.missing.proofs.SlotWants.{by-grown}
use Rattle.missing.proofs.SoundLemmas.{sound-announced_all}
use Rattle.missing.proofs.missing.Missing.announce_all.Goals as goal

pub put_all-requires-clause-kept : goal.put_all-requires-clause-kept
put_all-requires-clause-kept g c = rw (c.in_ok-reserve.ensures.items, c.in_ok-reserve-2.ensures.entries) (
  c.self.invariant.1.0,
  by-grown c.self.inside.wants.peers.keys c.insert.new.self.keys c.args.peer.now
      (somes c.self.inside.wants.slots.items) c.in_ok-insert.ensures.updates.0 c.self.invariant.1.1,
)

pub invariant_of-self-2 : goal.invariant_of-self-2
invariant_of-self-2 g c = (
  rw (c.put_all.ensures.wants, c.put_all.ensures.timers, c.in_ok-reserve.ensures.items, c.in_ok-reserve-3.ensures.items)
      (sound-announced_all c.args.peer.now c.args.entries.now
      (record { wants = somes c.self.inside.wants.slots.items; timers = somes c.self.inside.timers.slots.items }) c.self.invariant.0),
  c.put_all.ensures.kept,
  c.put_all.ensures.timed,
)
