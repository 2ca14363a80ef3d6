use Rattle.std.proofs.Common.{rules, subst}
use Rattle.protocol.specs.declared.stimulus.StimulusOf.TheVariants.{Join}
use Rattle.plumtree_c.specs.State.{Steps}
use Rattle.plumtree_c.proofs.calls.plumtree_join.Goals as goal

pub returns-in-Ok-answer-clause-done : goal.returns-in-Ok-answer-clause-done
returns-in-Ok-answer-clause-done c done = record {
  before = c.deref_mut.result.now;
  after = c.join-answer.new.self;
  had = search rules;
  has = search rules;
  done = subst (λ contact. Steps c.deref_mut.result.now (Join contact) c.join-answer.new.self) c.in-Ok.ensures.ok c.in-Ok-answer.ensures.ok;
}
