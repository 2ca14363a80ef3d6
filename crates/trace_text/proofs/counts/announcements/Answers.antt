-- One packet more.
use Rattle.std.proofs.Common.{◌∙◌, ◌+◌, ℕ, List, ap, arith}
use Rattle.std.proofs.lemmas.List.Sums.{count_by-le-length}
use Rattle.node_names.specs.Same.{same_id}
use Rattle.node_names.specs.declared.ids.MsgId.{MsgId}
use Rattle.world.specs.declared.packet.Packet.{Packet}
use Rattle.frames.specs.Content.{frame_content}
use Rattle.frames.specs.Frame.{Frame}
use Rattle.trace_text.specs.Counts.{announcements_in, count_at}
use Rattle.trace_text.proofs.Countings.{sum-more}
use Rattle.trace_text.proofs.counts.announcements.Goals as goal

pub loop-packet-preserved : goal.loop-packet-preserved
loop-packet-preserved g c = record {
  counted =
      λ id. sum-more (λ (p : Packet Frame). announcements_in id (frame_content p.note).announced) c.args.sent.now c.loop-packet.packet-index
      c.packet-item.result _ _ c.loop-packet-test.true c.packet-item.is (c.loop-packet.invariant.counted id) (c.in_ok-count_entries.ensures id
      ∙ ap (λ (entries : List (MsgId × ℕ)). count_at id c.loop-packet.counts.entries + announcements_in id entries) c.announced.ensures);
  below =
      λ id. omega (
        arith,
        c.loop-packet.invariant.below id,
        c.in_ok-count_entries.ensures id,
        count_by-le-length (λ (entry : MsgId × ℕ). same_id id entry.0) c.announced.result.now,
      );
}
