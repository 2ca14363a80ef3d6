use Rattle.std.proofs.Common.{inl, rules}
use Rattle.plumtree_c.proofs.wire_outputs.plumtree_wire_next_lost.Goals as goal

pub returns-in-Some-clause-done : goal.returns-in-Some-clause-done
returns-in-Some-clause-done c done = record {
  before = c.deref_mut.result.now;
  after = c.next_lost-found.new.self;
  had = search rules;
  has = search rules;
  done = c.in-Some.ensures.some;
}

pub returns-in-None-clause-stays : goal.returns-in-None-clause-stays
returns-in-None-clause-stays c none = inl (record {
  before = c.deref_mut.result.now;
  after = c.next_lost-found.new.self;
  had = search rules;
  has = search rules;
  done = c.in-None.ensures.none.stays;
})

pub returns-in-None-clause-none : goal.returns-in-None-clause-none
returns-in-None-clause-none c none = record {
  before = c.deref_mut.result.now;
  after = c.next_lost-found.new.self;
  had = search rules;
  has = search rules;
  done = c.in-None.ensures.none;
}
