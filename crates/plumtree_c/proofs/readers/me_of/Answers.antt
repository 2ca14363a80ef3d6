use Rattle.std.proofs.Common.{rules}
use Rattle.plumtree_c.proofs.readers.me_of.Goals as goal

pub returns-clause-done : goal.returns-clause-done
returns-clause-done g c done = record {
  kept = g.T.Lodger.kept c.in-Ok.node.value;
  has = c.in-Ok.ensures.ok;
  holds = search rules;
}
