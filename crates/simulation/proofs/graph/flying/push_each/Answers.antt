-- A step appends the arrow of one packet, if it is about the message.
use Rattle.std.proofs.Common.{refl}
use Rattle.simulation.specs.Graph.{flying_at, flying_lines}
use Rattle.trace_text.proofs.Texts.{joined, lines-more}
use Rattle.simulation.proofs.graph.flying.push_each.Goals as goal

pub loop-number-preserved : goal.loop-number-preserved
loop-number-preserved g c =
    joined _ _ _ _ _ _ c.in_ok-push_numbered.ensures c.loop-number.invariant (lines-more (flying_at c.args.id.now c.args.group.now.group)
    (flying_lines c.args.id.now c.args.group.now.group) refl (λ x xs. refl) c.args.numbers.now c.loop-number.number-index _ 0 c.loop-number-test.true refl)
