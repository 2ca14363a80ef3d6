use Rattle.std.proofs.Common.{◌∙◌, not, sym, subst}
use Rattle.node_names.specs.Slots.{somes}
use Rattle.missing.specs.Slots.{AreBy}
use Rattle.missing.specs.Wants.{place_of, same_place}
use Rattle.missing.proofs.SlotWants.{by-filter, without_first-lacks, without_first-place}
use Rattle.missing.proofs.wants.take_first.Goals as goal

pub returns-in_err-first-clause-left : goal.returns-in_err-first-clause-left
returns-in_err-first-clause-left g c = without_first-lacks c.args.id.now (somes c.args.wants.now.slots.items) (sym c.first.ensures ∙ c.in_err-first.was)

pub returns-clause-left : goal.returns-clause-left
returns-clause-left g c =
    c.remove.ensures.left ∙ without_first-place c.args.id.now
    (somes c.args.wants.now.slots.items) c.in_ok-first.first.0 c.in_ok-first.first.1 c.requires.once (sym c.first.ensures ∙ c.in_ok-first.was)

pub returns-clause-kept : goal.returns-clause-kept
returns-clause-kept g c = (
  c.remove.ensures.placed,
  subst (AreBy c.args.wants.now.peers.keys) (sym c.remove.ensures.left) (by-filter c.args.wants.now.peers.keys
      (λ entry. not (same_place (c.args.id.now, c.in_ok-first.first.0) (place_of entry))) (somes c.args.wants.now.slots.items) c.requires.kept.1),
)
