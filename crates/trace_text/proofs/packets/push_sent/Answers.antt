-- A step appends the line of one packet, and at the end no packet is left.
use Rattle.std.proofs.Common.{refl}
use Rattle.trace_text.specs.Packets.{sent_line, sent_lines}
use Rattle.trace_text.proofs.Texts.{numbered-end, numbered-step}
use Rattle.trace_text.proofs.packets.push_sent.Goals as goal

pub loop-place-preserved : goal.loop-place-preserved
loop-place-preserved g c =
    numbered-step sent_line sent_lines (λ i. refl) (λ i x xs. refl) c.args.sent.now c.loop-place.place c.index-sent-place.result
    c.index-sent-place.result _ _ _ c.loop-place-test.true c.index-sent-place.is c.in_ok-push_sent_line.ensures c.loop-place.invariant

pub returns : goal.returns
returns g c =
    numbered-end sent_line sent_lines (λ i. refl) (λ i x xs. refl) c.args.sent.now c.loop-place.place _ _ c.loop-place-test.false c.loop-place.invariant
