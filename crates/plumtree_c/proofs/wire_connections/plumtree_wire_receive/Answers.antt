use Rattle.std.proofs.Common.{inl, inr, rules}
use Rattle.plumtree_c.proofs.wire_connections.plumtree_wire_receive.Goals as goal

pub returns-in-Ok-answer-clause-done : goal.returns-in-Ok-answer-clause-done
returns-in-Ok-answer-clause-done c done = record {
  before = c.deref_mut.result.now;
  after = c.receive-answer.new.self;
  had = search rules;
  has = search rules;
  done = c.in-Ok-answer.ensures.ok;
}

pub returns-in-Err-answer-clause-over : goal.returns-in-Err-answer-clause-over
returns-in-Err-answer-clause-over c refused = elim c.in-Err-answer.ensures.err [
  | inl some ↦ inl (record {
    before = c.deref_mut.result.now;
    after = c.receive-answer.new.self;
    had = search rules;
    has = search rules;
    done = some;
  })
  | inr same ↦ inr (first_of (search (rules, same), cc))
]
