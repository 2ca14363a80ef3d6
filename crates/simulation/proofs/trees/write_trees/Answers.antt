-- A step writes the lines of one message.
use Rattle.std.proofs.Common.{◌∙◌, ◌++◌, List, ap, refl}
use Rattle.at_rest.specs.declared.branch.Branch.{Branch}
use Rattle.simulation.specs.Trees.{tree_lines, TellsTree}
use Rattle.simulation.proofs.Texts.{written}
use Rattle.simulation.proofs.Telling.{told_rest}
use Rattle.simulation.proofs.Turns.{InTurn-more}
use Rattle.simulation.proofs.trees.write_trees.Goals as goal

pub loop-id-preserved : goal.loop-id-preserved
loop-id-preserved g c =
    let (before, told, appended) = c.loop-id.invariant in
    let more = tree_lines c.id-item.result c.is_at_rest.result c.tree.result.now in
    let tells : TellsTree g.C.Core.state g.C.Note.Wire.content c.args.group.now c.id-item.result more = record {
      rest = c.is_at_rest.result;
      is_rest = told_rest _ _ _ c.is_at_rest.ensures (c.in_ok-unrest.ensures c.id-item.result);
      written = ap (λ (bs : List Branch). tree_lines c.id-item.result c.is_at_rest.result bs) (c.tree.ensures ∙ c.in_ok-forest.ensures c.id-item.result);
    } in (
      before ++ more,
      InTurn-more (TellsTree g.C.Core.state g.C.Note.Wire.content c.args.group.now) c.args.ids.now
          c.loop-id.id-index c.id-item.result before more c.loop-id-test.true c.id-item.is told tells,
      written _ _ _ _ _ _ appended c.in_ok-write_tree.ensures refl,
    )
