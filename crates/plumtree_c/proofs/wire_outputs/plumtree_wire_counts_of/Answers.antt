use Rattle.std.proofs.Common.{rules}
use Rattle.plumtree_c.proofs.wire_outputs.plumtree_wire_counts_of.Goals as goal

pub returns-clause-done : goal.returns-clause-done
returns-clause-done c done = record {
  wire = c.in-Ok.wire.value;
  has = c.in-Ok.ensures.ok;
  holds = search rules;
}
