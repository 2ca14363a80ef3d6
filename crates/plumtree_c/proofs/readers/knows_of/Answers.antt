use Rattle.std.proofs.Common.{rules}
use Rattle.plumtree_c.proofs.readers.knows_of.Goals as goal

pub returns-clause-done : goal.returns-clause-done
returns-clause-done g c done = record {
  kept = g.T.Lodger.kept c.in-Ok.node.value;
  has = c.in-Ok.ensures.ok;
  holds = search rules;
}

pub returns-then-not-knows-clause-none : goal.returns-then-not-knows-clause-none
returns-then-not-knows-clause-none g c none = record {
  kept = g.T.Lodger.kept c.in-Ok.node.value;
  has = c.in-Ok.ensures.ok;
  holds = search rules;
}
