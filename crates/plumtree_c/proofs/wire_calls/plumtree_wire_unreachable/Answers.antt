use Rattle.std.proofs.Common.{rules, subst}
use Rattle.plumtree_c.specs.Plain.{dice_of}
use Rattle.plumtree_c.specs.Wire.{Does, Leaves}
use Rattle.plumtree_c.proofs.wire_calls.plumtree_wire_unreachable.Goals as goal

pub returns-in-Ok-answer-clause-done : goal.returns-in-Ok-answer-clause-done
returns-in-Ok-answer-clause-done c done = record {
  before = c.deref_mut.result.now;
  after = c.unreachable-answer.new.self;
  had = search rules;
  has = search rules;
  done =
      subst (λ name. Does (Leaves name (dice_of c.args.dice.now)) c.deref_mut.result.now c.unreachable-answer.new.self)
      c.in-Ok.ensures.ok c.in-Ok-answer.ensures.ok;
}
