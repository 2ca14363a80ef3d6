use Rattle.std.proofs.Common.{IfNone, IfSome, rules, subst}
use Rattle.plumtree_c.specs.Wire.{HasNoNews, Informs}
use Rattle.plumtree_c.proofs.wire_news.plumtree_wire_next_news.Goals as goal

pub returns-in-Some-clause-done : goal.returns-in-Some-clause-done
returns-in-Some-clause-done c done = record {
  before = c.deref_mut.result.now;
  after = c.next_news-answer.new.self;
  had = search rules;
  has = search rules;
  done = subst (λ found. IfSome found (λ its. Informs its c.deref_mut.result.now c.next_news-answer.new.self)) c.in-Some.is c.in-Ok-answer.ensures.some;
}

pub returns-in-None-clause-none : goal.returns-in-None-clause-none
returns-in-None-clause-none c none = record {
  before = c.deref_mut.result.now;
  after = c.next_news-answer.new.self;
  had = search rules;
  has = search rules;
  done = subst (λ found. IfNone found (HasNoNews c.deref_mut.result.now c.next_news-answer.new.self)) c.in-None.is c.in-Ok-answer.ensures.none;
}
