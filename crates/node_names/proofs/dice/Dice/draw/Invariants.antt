use Rattle.node_names.proofs.Drawing.{AreDrawn}
use Rattle.node_names.proofs.dice.Dice.draw.Given as goal

-- the answers so far stand in order
abbrev pub invariant-loop-i : goal.invariant-loop-i
invariant-loop-i g l = AreDrawn (g.R.Rng.stream l.fn.rng) l.i l.words (g.R.Rng.stream l.rng)
