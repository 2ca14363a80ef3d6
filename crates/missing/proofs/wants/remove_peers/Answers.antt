use Rattle.std.proofs.Common.{◌∙◌, not, map, get_or, sym, ap, subst}
use Rattle.std.specs.List.{IsDistinct}
use Rattle.node_names.specs.Same.{same_name}
use Rattle.node_names.specs.Slots.{somes}
use Rattle.missing.specs.Slots.{AreArmed}
use Rattle.missing.specs.Wants.{place_of, same_place, without_peer}
use Rattle.missing.proofs.SlotWants.{armed-filter, without_peers-take}
use Rattle.missing.proofs.SoundLemmas.{once-filter}
use Rattle.missing.proofs.wants.remove_peers.Goals as goal

pub loop-peer-preserved : goal.loop-peer-preserved
loop-peer-preserved g c =
    record {
      left =
          c.remove_peer.ensures.left
          ∙ ap (λ peer. without_peer peer (somes c.loop-peer.wants.slots.items)) c.peer-item.is
          ∙ ap (without_peer (get_or c.args.peers.now c.loop-peer.peer-index c.peer-item.result)) c.loop-peer.invariant.left
          ∙ sym (without_peers-take c.args.peers.now c.loop-peer.peer-index c.peer-item.result (somes c.args.wants.now.slots.items) c.loop-peer-test.true);
      kept = c.remove_peer.ensures.kept;
      once =
          subst (λ wants. IsDistinct same_place (map place_of wants)) (sym c.remove_peer.ensures.left)
          (once-filter (λ entry. not (same_name c.peer-item.result entry.1)) (somes c.loop-peer.wants.slots.items) c.loop-peer.invariant.once);
      armed =
          subst (AreArmed (somes c.args.ids.now)) (sym c.remove_peer.ensures.left) (armed-filter (somes c.args.ids.now)
          (λ entry. not (same_name c.peer-item.result entry.1)) (somes c.loop-peer.wants.slots.items) c.loop-peer.invariant.armed);
    }
