use Rattle.std.proofs.Common.{arith, rules}
use Rattle.std.proofs.lemmas.Grind.{common_steps}
use Rattle.plumtree_c.proofs.readers.plumtree_timer.Goals as goal

pub returns-then-has_bytes-clause-done : goal.returns-then-has_bytes-clause-done
returns-then-has_bytes-clause-done c done = c.timer_of.ensures.done (first_of (search rules, grind (arith, common_steps)))

pub returns-clause-done : goal.returns-clause-done
returns-clause-done c done = c.timer_of-2.ensures.done (first_of (search rules, grind (arith, common_steps)))

pub returns-then-has_bytes-clause-none : goal.returns-then-has_bytes-clause-none
returns-then-has_bytes-clause-none c none = c.timer_of.ensures.none (first_of (search rules, grind (arith, common_steps)))

pub returns-clause-none : goal.returns-clause-none
returns-clause-none c none = c.timer_of-2.ensures.none (first_of (search rules, grind (arith, common_steps)))
