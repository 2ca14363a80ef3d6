-- A step appends the lines of one link.
use Rattle.std.proofs.Common.{refl}
use Rattle.simulation.specs.Graph.{link_line, link_lines}
use Rattle.trace_text.proofs.Texts.{joined, lines-more}
use Rattle.simulation.proofs.graph.overlay.push_links.Goals as goal

pub loop-member-preserved : goal.loop-member-preserved
loop-member-preserved g c =
    joined _ _ _ _ _ _ c.in_ok-push_link.ensures c.loop-member.invariant (lines-more (link_line c.args.name.now) (link_lines c.args.name.now) refl
    (λ x xs. refl) c.args.members.now c.loop-member.member-index c.member-item.result c.member-item.result c.loop-member-test.true c.member-item.is)
