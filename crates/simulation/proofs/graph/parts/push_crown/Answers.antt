-- A step appends the lines of one delivery.
use Rattle.std.proofs.Common.{refl}
use Rattle.simulation.specs.Graph.{crown_lines, twig_lines}
use Rattle.trace_text.proofs.Texts.{joined, lines-more}
use Rattle.simulation.proofs.graph.parts.push_crown.Goals as goal

pub loop-branch-preserved : goal.loop-branch-preserved
loop-branch-preserved g c =
    joined _ _ _ _ _ _ c.in_ok-push_twig.ensures c.loop-branch.invariant (lines-more (twig_lines c.args.id.now) (crown_lines c.args.id.now) refl
    (λ x xs. refl) c.args.branches.now c.loop-branch.branch-index c.branch-item.result c.branch-item.result c.loop-branch-test.true c.branch-item.is)
