use Rattle.std.proofs.Common.{◌≡◌, ◌∙◌, get_or, sym, ap, arith}
use Rattle.std.proofs.lemmas.List.{take_all}
use Rattle.missing.specs.Slots.{earlier, place, has_place, is_by}
use Rattle.missing.proofs.SlotWants.{by_none, by_more, by_all}
use Rattle.missing.proofs.wants.first_place.Goals as goal

pub loop-peer-init : goal.loop-peer-init
loop-peer-init g c = sym (by_none c.args.id.now c.args.wants.now.slots.items)

pub loop-peer-preserved : goal.loop-peer-preserved
loop-peer-preserved g c =
    c.earlier-first.ensures
    ∙ (λ i. earlier (c.loop-peer.invariant i) (found i))
    ∙ by_more c.args.id.now c.as_slice-peer-items.result.now c.loop-peer.peer-index c.peer-item.result c.args.wants.now.slots.items c.loop-peer-test.true
  where
    found : c.copied.result
        ≡ place (has_place (c.args.id.now, get_or c.as_slice-peer-items.result.now c.loop-peer.peer-index c.peer-item.result)) c.args.wants.now.slots.items
    found =
        c.copied.ensures
        ∙ c.get.ensures.value
        ∙ c.requires.kept.0 (c.args.id.now, c.peer-item.result)
        ∙ ap (λ peer. place (has_place (c.args.id.now, peer)) c.args.wants.now.slots.items) c.peer-item.is

pub returns : goal.returns
returns g c =
    c.loop-peer.invariant
    ∙ ap (λ names. place (is_by c.args.id.now names) c.args.wants.now.slots.items)
    (take_all c.loop-peer.peer-index c.as_slice-peer-items.result.now (omega arith) ∙ c.as_slice-peer-items.ensures.keys)
    ∙ by_all c.args.id.now c.args.wants.now.peers.keys c.args.wants.now.slots.items c.requires.kept.1
