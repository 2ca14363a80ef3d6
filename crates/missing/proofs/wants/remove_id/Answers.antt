use Rattle.std.proofs.Common.{not, sym, subst}
use Rattle.node_names.specs.Same.{same_id}
use Rattle.node_names.specs.Slots.{somes}
use Rattle.missing.specs.Slots.{AreBy}
use Rattle.missing.proofs.SlotWants.{by-filter}
use Rattle.missing.proofs.wants.remove_id.Goals as goal

pub returns-clause-kept : goal.returns-clause-kept
returns-clause-kept g c = (
  c.remove_by.ensures.placed,
  subst (AreBy c.args.wants.now.peers.keys) (sym c.remove_by.ensures.left)
      (by-filter c.args.wants.now.peers.keys (λ entry. not (same_id c.args.id.now entry.0)) (somes c.args.wants.now.slots.items) c.requires.kept.1),
)
