use Rattle.std.proofs.Common.{inl, rules}
use Rattle.plumtree_c.proofs.wire_calls.plumtree_wire_tick.Goals as goal

pub returns-in-Ok-answer-clause-done : goal.returns-in-Ok-answer-clause-done
returns-in-Ok-answer-clause-done c done = record {
  before = c.deref_mut.result.now;
  after = c.tick-answer.new.self;
  had = search rules;
  has = search rules;
  done = c.in-Ok-answer.ensures.ok;
}

pub returns-in-Err-answer-clause-over : goal.returns-in-Err-answer-clause-over
returns-in-Err-answer-clause-over c refused = inl (record {
  before = c.deref_mut.result.now;
  after = c.tick-answer.new.self;
  had = search rules;
  has = search rules;
  done = c.in-Err-answer.ensures.err;
})
