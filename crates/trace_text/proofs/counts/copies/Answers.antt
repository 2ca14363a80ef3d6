-- One packet more.
use Rattle.std.proofs.Common.{arith}
use Rattle.std.specs.Prelude.{cond}
use Rattle.protocol.specs.SpreadLaw.{is_carried}
use Rattle.world.specs.declared.packet.Packet.{Packet}
use Rattle.frames.specs.Content.{frame_content}
use Rattle.frames.specs.Frame.{Frame}
use Rattle.trace_text.proofs.Countings.{one_at_most, sum-more}
use Rattle.trace_text.proofs.counts.copies.Goals as goal

pub loop-packet-preserved : goal.loop-packet-preserved
loop-packet-preserved g c = record {
  counted =
      λ id. sum-more (λ (p : Packet Frame). cond (is_carried id (frame_content p.note).carried) 1 0) c.args.sent.now c.loop-packet.packet-index
      c.packet-item.result _ _ c.loop-packet-test.true c.packet-item.is (c.loop-packet.invariant.counted id) (c.in_ok-count_copy.ensures id);
  below =
      λ id. omega (
        arith,
        c.loop-packet.invariant.below id,
        c.in_ok-count_copy.ensures id,
        one_at_most (is_carried id (frame_content c.packet-item.result.note).carried),
      );
}
