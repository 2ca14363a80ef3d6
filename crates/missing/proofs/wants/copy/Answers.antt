use Rattle.std.proofs.Common.{◌∙◌, take, sym, ap, subst, arith}
use Rattle.std.proofs.lemmas.List.{take_all}
use Rattle.std.proofs.lemmas.List.Elements.{same_from_all_zip}
use Rattle.node_names.specs.Slots.{somes}
use Rattle.missing.specs.Slots.{AreBy}
use Rattle.missing.specs.Wants.{with_slot}
use Rattle.missing.proofs.SlotWants.{copy-step}
use Rattle.missing.proofs.wants.copy.Goals as goal

pub loop-slot-preserved : goal.loop-slot-preserved
loop-slot-preserved g c = (
  c.in_ok-put_slot.ensures.wants
      ∙ ap (with_slot c.slot-item.result) c.loop-slot.invariant.0
      ∙ ap (λ slot. with_slot slot (somes (take c.loop-slot.slot-index c.as_slice-slot-items.result.now))) c.slot-item.is
      ∙ copy-step c.as_slice-slot-items.result.now c.loop-slot.slot-index c.slot-item.result
      (rw c.as_slice-slot-items.ensures.value c.requires.once) c.loop-slot-test.true,
  c.in_ok-put_slot.ensures.placed,
)

pub returns-clause-wants : goal.returns-clause-wants
returns-clause-wants g c =
    c.loop-slot.invariant.0 ∙ ap somes (take_all c.loop-slot.slot-index c.as_slice-slot-items.result.now (omega arith) ∙ c.as_slice-slot-items.ensures.value)

pub returns-clause-kept : goal.returns-clause-kept
returns-clause-kept g c = (
  c.loop-slot.invariant.1,
  subst (AreBy c.in_ok-peers.peers.keys) (sym (returns-clause-wants g c)) (subst (λ peers. AreBy peers (somes c.args.wants.now.slots.items))
      (sym (same_from_all_zip _ c.args.wants.now.peers.keys c.in_ok-peers.peers.keys c.in_ok-peers.ensures.cases (λ x y h. h))) c.requires.kept.1),
)
