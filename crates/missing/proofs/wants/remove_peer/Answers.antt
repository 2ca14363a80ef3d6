use Rattle.std.proofs.Common.{sym, subst}
use Rattle.node_names.specs.Slots.{somes}
use Rattle.missing.specs.Slots.{AreBy}
use Rattle.missing.proofs.SlotWants.{by-shrunk}
use Rattle.missing.proofs.wants.remove_peer.Goals as goal

pub returns-clause-kept : goal.returns-clause-kept
returns-clause-kept g c = (
  c.remove_of.ensures.placed,
  subst (AreBy c.swap_remove.new.self.keys) (sym c.remove_of.ensures.left) (by-shrunk c.args.wants.now.peers.keys c.swap_remove.new.self.keys c.args.peer.now
      (somes c.args.wants.now.slots.items) c.swap_remove.ensures.updates.0 c.requires.kept.1),
)
