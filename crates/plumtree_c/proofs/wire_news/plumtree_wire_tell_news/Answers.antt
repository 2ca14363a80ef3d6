use Rattle.std.proofs.Common.{rules}
use Rattle.plumtree_c.proofs.wire_news.plumtree_wire_tell_news.Goals as goal

pub returns-clause-done : goal.returns-clause-done
returns-clause-done c done = record {
  before = c.deref_mut.result.now;
  after = c.tell_news.new.self;
  had = search rules;
  has = search rules;
  done = c.tell_news.ensures;
}
