use Rattle.std.proofs.Common.{◌∙◌, not, filter, map, Some, get_or, sym, ap, subst, arith}
use Rattle.std.specs.List.{IsDistinct}
use Rattle.std.proofs.lemmas.List.{take_all}
use Rattle.node_names.specs.Slots.{somes}
use Rattle.missing.specs.Slots.{is_by}
use Rattle.missing.specs.Wants.{place_of, same_place, without_place}
use Rattle.missing.proofs.SlotWants.{id_none, id_more, id_all}
use Rattle.missing.proofs.SoundLemmas.{once-filter}
use Rattle.missing.proofs.wants.remove_by.Goals as goal

pub loop-peer-init : goal.loop-peer-init
loop-peer-init g c = record { left = id_none c.args.id.now (somes c.args.slots.now.items); placed = c.requires.placed; once = c.requires.once }

pub loop-peer-preserved : goal.loop-peer-preserved
loop-peer-preserved g c =
    record {
      left =
          c.remove.ensures.left
          ∙ ap (λ peer. without_place (c.args.id.now, peer) (somes c.loop-peer.slots.items)) c.peer-item.is
          ∙ ap (without_place (c.args.id.now, get_or c.args.peers.now c.loop-peer.peer-index c.peer-item.result)) c.loop-peer.invariant.left
          ∙ id_more c.args.id.now c.args.peers.now c.loop-peer.peer-index c.peer-item.result (somes c.args.slots.now.items) c.loop-peer-test.true;
      placed = c.remove.ensures.placed;
      once =
          subst (λ wants. IsDistinct same_place (map place_of wants)) (sym c.remove.ensures.left) (once-filter
          (λ entry. not (same_place (c.args.id.now, c.peer-item.result) (place_of entry))) (somes c.loop-peer.slots.items) c.loop-peer.invariant.once);
    }

pub returns-clause-left : goal.returns-clause-left
returns-clause-left g c =
    c.loop-peer.invariant.left
    ∙ ap (λ names. filter (λ entry. not (is_by c.args.id.now names (Some entry))) (somes c.args.slots.now.items))
    (take_all c.loop-peer.peer-index c.args.peers.now (omega arith))
    ∙ id_all c.args.id.now c.args.peers.now (somes c.args.slots.now.items) c.requires.by
