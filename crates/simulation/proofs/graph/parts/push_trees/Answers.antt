-- A step appends the part of one message.
use Rattle.std.proofs.Common.{◌∙◌, ◌++◌, List, ap, refl}
use Rattle.at_rest.specs.declared.branch.Branch.{Branch}
use Rattle.simulation.specs.Graph.{part_text, DrawsPart}
use Rattle.simulation.proofs.Telling.{told_rest}
use Rattle.trace_text.proofs.Texts.{joined}
use Rattle.simulation.proofs.Turns.{InTurn-more}
use Rattle.simulation.proofs.graph.parts.push_trees.Goals as goal

pub loop-id-preserved : goal.loop-id-preserved
loop-id-preserved g c =
    let (before, drawn, appended) = c.loop-id.invariant in
    let more = part_text c.id-item.result c.is_at_rest.result c.tree.result.now c.args.group.now.group in
    let draws : DrawsPart c.args.group.now c.id-item.result more = record {
      rest = c.is_at_rest.result;
      is_rest = told_rest _ _ _ c.is_at_rest.ensures (c.in_ok-unrest.ensures c.id-item.result);
      written =
          ap (λ (bs : List Branch). part_text c.id-item.result c.is_at_rest.result bs c.args.group.now.group)
          (c.tree.ensures ∙ c.in_ok-forest.ensures c.id-item.result);
    } in (
      before ++ more,
      InTurn-more (DrawsPart c.args.group.now) c.args.messages.now c.loop-id.id-index c.id-item.result before more c.loop-id-test.true c.id-item.is drawn draws,
      joined _ _ _ _ _ _ c.in_ok-push_part.ensures appended refl,
    )
