use Rattle.std.proofs.Common.{rules, subst}
use Rattle.plumtree_c.specs.Wire.{Does, Went}
use Rattle.plumtree_c.proofs.wire_outputs.plumtree_wire_transmitted.Goals as goal

pub returns-clause-done : goal.returns-clause-done
returns-clause-done c done = record {
  before = c.deref_mut.result.now;
  after = c.transmitted.new.self;
  had = search rules;
  has = search rules;
  done = subst (λ name. Does (Went name c.args.count) c.deref_mut.result.now c.transmitted.new.self) c.in-Ok.ensures.ok c.transmitted.ensures;
}
