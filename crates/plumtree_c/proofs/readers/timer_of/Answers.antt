use Rattle.std.proofs.Common.{rules}
use Rattle.plumtree_c.proofs.readers.timer_of.Goals as goal

pub returns-in-Some-clause-done : goal.returns-in-Some-clause-done
returns-in-Some-clause-done g c done = record {
  kept = g.T.Lodger.kept c.in-Ok.node.value;
  has = c.in-Ok.ensures.ok;
  holds = search rules;
}

pub returns-in-None-clause-none : goal.returns-in-None-clause-none
returns-in-None-clause-none g c none = record {
  kept = g.T.Lodger.kept c.in-Ok.node.value;
  has = c.in-Ok.ensures.ok;
  holds = search rules;
}
