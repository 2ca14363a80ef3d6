use Rattle.std.proofs.Common.{rules, subst}
use Rattle.plumtree_c.specs.Plain.{dice_of}
use Rattle.plumtree_c.specs.Wire.{Does, Joins}
use Rattle.plumtree_c.proofs.wire_calls.plumtree_wire_join.Goals as goal

pub returns-in-Ok-answer-clause-done : goal.returns-in-Ok-answer-clause-done
returns-in-Ok-answer-clause-done c done = record {
  before = c.deref_mut.result.now;
  after = c.join-answer.new.self;
  had = search rules;
  has = search rules;
  done =
      subst (λ contact. Does (Joins contact (dice_of c.args.dice.now)) c.deref_mut.result.now c.join-answer.new.self)
      c.in-Ok.ensures.ok c.in-Ok-answer.ensures.ok;
}
