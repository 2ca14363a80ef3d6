use Rattle.std.proofs.Common.{rules}
use Rattle.plumtree_c.proofs.calls.plumtree_fire_at.Goals as goal

pub returns-in-Ok-answer-clause-done : goal.returns-in-Ok-answer-clause-done
returns-in-Ok-answer-clause-done c done = record {
  before = c.deref_mut.result.now;
  after = c.fire-answer.new.self;
  had = search rules;
  has = search rules;
  done = record { id = c.in-Some.id; armed = search rules; steps = c.in-Ok-answer.ensures.ok };
}

pub returns-in_default-clause-none : goal.returns-in_default-clause-none
returns-in_default-clause-none c none = record { node = c.in-Ok.node.value; has = c.in-Ok.ensures.ok; holds = search rules }
