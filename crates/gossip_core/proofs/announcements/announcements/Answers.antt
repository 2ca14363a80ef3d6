-- The packets of one more batch.
use Rattle.std.proofs.Common.{ap, sym, ◌∙◌, ◌++◌, take}
use Rattle.std.specs.List.{flat_map}
use Rattle.gossip_core.specs.Announcements.{packets_to}
use Rattle.gossip_core.proofs.PacketLemmas.{flat_map-take}
use Rattle.gossip_core.proofs.announcements.announcements.Goals as goal

pub loop-batch-preserved : goal.loop-batch-preserved
loop-batch-preserved g c =
    c.in_ok-push_packets.ensures
    ∙ ap (λ ps. ps ++ packets_to (c.batch-item.result.0, c.as_slice.result.now)) c.loop-batch.invariant
    ∙ ap
    (λ es. flat_map packets_to (take c.loop-batch.batch-index c.as_slice-batch-items.result.now) ++ packets_to (c.batch-item.result.0, es)) c.as_slice.ensures
    ∙ ap (λ batch. flat_map packets_to (take c.loop-batch.batch-index c.as_slice-batch-items.result.now) ++ packets_to batch) c.batch-item.is
    ∙ sym (flat_map-take packets_to c.as_slice-batch-items.result.now c.loop-batch.batch-index c.batch-item.result c.loop-batch-test.true)
