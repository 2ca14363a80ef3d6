use Rattle.node_names.proofs.Drawing.{draws_more}
use Rattle.node_names.proofs.dice.Dice.draw.Goals as goal

pub loop-i-preserved : goal.loop-i-preserved
loop-i-preserved g c = draws_more _ _ _ _ _ _ c.loop-i-test.true c.loop-i.invariant c.next_u64.ensures
