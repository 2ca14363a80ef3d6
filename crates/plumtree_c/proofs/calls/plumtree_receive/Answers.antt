use Rattle.std.proofs.Common.{rules, subst, IfSome}
use Rattle.plumtree_c.specs.Plain.{dice_of}
use Rattle.plumtree_c.specs.State.{Hears}
use Rattle.plumtree_c.proofs.calls.plumtree_receive.Goals as goal

pub returns-clause-done : goal.returns-clause-done
returns-clause-done c done = record {
  before = c.deref_mut.result.now;
  after = c.receive-answer.new.self;
  had = search rules;
  has = search rules;
  done =
      subst (λ found. IfSome found (λ length. Hears c.deref_mut.result.now c.args.bytes.now length (dice_of c.args.dice.now) c.receive-answer.new.self))
      c.in-Some.is c.in-Ok-answer.ensures.some;
}
