use Rattle.std.proofs.Common.{◌≡◌, ◌∙◌, false, rules, subst, sym}
use Rattle.node_names.specs.Same.{has_id}
use Rattle.protocol.specs.declared.stimulus.StimulusOf.TheVariants.{Fire}
use Rattle.plumtree_c.specs.State.{NodeState, Steps}
use Rattle.plumtree_c.proofs.calls.plumtree_fire.Goals as goal

pub returns-in-Ok-answer-clause-done : goal.returns-in-Ok-answer-clause-done
returns-in-Ok-answer-clause-done c done = record {
  before = c.deref_mut.result.now;
  after = c.fire-answer.new.self;
  had = search rules;
  has = search rules;
  done = subst (λ id. Steps c.deref_mut.result.now (Fire id) c.fire-answer.new.self) c.in-Ok.ensures c.in-Ok-answer.ensures.ok;
}

pub returns-then-not-is_armed-clause-none : goal.returns-then-not-is_armed-clause-none
returns-then-not-is_armed-clause-none c none =
    let same : c.deref.result.now ≡ c.in-Ok-take.node.value = search rules in
    let unarmed : has_id c.deref.result.now.core.gossip.missing.timers c.in-Ok.id ≡ false = sym c.is_armed.ensures ∙ c.if-not-is_armed.true in
    record {
      node = c.in-Ok-take.node.value;
      has = c.in-Ok-take.ensures.ok;
      holds =
          subst (λ id. has_id c.in-Ok-take.node.value.core.gossip.missing.timers id ≡ false) c.in-Ok.ensures
          (subst (λ (node : NodeState). has_id node.core.gossip.missing.timers c.in-Ok.id ≡ false) same unarmed);
    }
