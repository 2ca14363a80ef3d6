use Rattle.std.proofs.Common.{◌≡◌, ◌++◌, drop, length, map, take}
use Rattle.plumtree_c.specs.Stirring.{mixed}
use Rattle.plumtree_c.proofs.stirred.mix_all.Given as goal

-- the words so far are mixed
abbrev pub invariant-loop-i : goal.invariant-loop-i
invariant-loop-i l = (length l.words ≡ length l.fn.words) × (l.words ≡ map mixed (take l.i l.fn.words) ++ drop l.i l.fn.words)
