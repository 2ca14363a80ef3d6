use Rattle.std.proofs.Common.{rules, subst}
use Rattle.protocol.specs.declared.stimulus.StimulusOf.TheVariants.{Down}
use Rattle.plumtree_c.specs.Plain.{dice_of}
use Rattle.plumtree_c.specs.State.{Steps}
use Rattle.plumtree_c.proofs.calls.plumtree_link_down.Goals as goal

pub returns-in-Ok-answer-clause-done : goal.returns-in-Ok-answer-clause-done
returns-in-Ok-answer-clause-done c done = record {
  before = c.deref_mut.result.now;
  after = c.link_down-answer.new.self;
  had = search rules;
  has = search rules;
  done =
      subst (λ peer. Steps c.deref_mut.result.now (Down peer (dice_of c.args.dice.now)) c.link_down-answer.new.self)
      c.in-Ok.ensures.ok c.in-Ok-answer.ensures.ok;
}
