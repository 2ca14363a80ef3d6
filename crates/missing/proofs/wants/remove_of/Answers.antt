use Rattle.std.proofs.Common.{◌∙◌, not, filter, map, Some, get_or, sym, ap, subst, arith}
use Rattle.std.specs.List.{IsDistinct}
use Rattle.std.proofs.lemmas.List.{take_all}
use Rattle.node_names.specs.Slots.{somes}
use Rattle.missing.specs.Slots.{is_any_by}
use Rattle.missing.specs.Wants.{place_of, same_place, without_slot}
use Rattle.missing.proofs.SlotWants.{peer_none, slot_more, peer_all, once-without_slot}
use Rattle.missing.proofs.wants.remove_of.Goals as goal

pub loop-slot-init : goal.loop-slot-init
loop-slot-init g c = record { left = peer_none c.args.peer.now (somes c.args.slots.now.items); placed = c.requires.placed; once = c.requires.once }

pub loop-slot-preserved : goal.loop-slot-preserved
loop-slot-preserved g c =
    record {
      left =
          c.remove_slot.ensures.left
          ∙ ap (λ slot. without_slot slot c.args.peer.now (somes c.loop-slot.slots.items)) c.slot-item.is
          ∙ ap (without_slot (get_or c.args.ids.now c.loop-slot.slot-index c.slot-item.result) c.args.peer.now) c.loop-slot.invariant.left
          ∙ slot_more c.args.ids.now c.loop-slot.slot-index c.slot-item.result c.args.peer.now (somes c.args.slots.now.items) c.loop-slot-test.true;
      placed = c.remove_slot.ensures.placed;
      once =
          subst (λ wants. IsDistinct same_place (map place_of wants)) (sym c.remove_slot.ensures.left)
          (once-without_slot c.slot-item.result c.args.peer.now (somes c.loop-slot.slots.items) c.loop-slot.invariant.once);
    }

pub returns-clause-left : goal.returns-clause-left
returns-clause-left g c =
    c.loop-slot.invariant.left
    ∙ ap (λ slots. filter (λ entry. not (is_any_by (somes slots) c.args.peer.now (Some entry))) (somes c.args.slots.now.items))
    (take_all c.loop-slot.slot-index c.args.ids.now (omega arith))
    ∙ peer_all (somes c.args.ids.now) c.args.peer.now (somes c.args.slots.now.items) c.requires.armed
