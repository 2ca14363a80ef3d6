-- A step appends one member.
use Rattle.std.proofs.Common.{refl}
use Rattle.trace_text.specs.Parts.{member_item, member_items}
use Rattle.trace_text.proofs.Texts.{joined, lines-more}
use Rattle.trace_text.proofs.parts.push_member_items.Goals as goal

pub loop-member-preserved : goal.loop-member-preserved
loop-member-preserved g c =
    joined _ _ _ _ _ _ c.in_ok-push_member_item.ensures c.loop-member.invariant (lines-more (member_item c.args.kind) (member_items c.args.kind) refl
    (λ x xs. refl) c.args.members.now c.loop-member.member-index c.member-item.result c.member-item.result c.loop-member-test.true c.member-item.is)
