use Rattle.std.proofs.Common.{◌≡◌, [], IfNone, IfSome, None, rules, subst, take}
use Rattle.plumtree_c.specs.Plain.{name_of}
use Rattle.plumtree_c.specs.State.{Sent}
use Rattle.plumtree_c.proofs.outputs.plumtree_next_send.Goals as goal

pub returns-clause-done : goal.returns-clause-done
returns-clause-done c done = record {
  before = c.deref_mut.result.now;
  after = c.next_send-answer.new.self;
  had = search rules;
  has = search rules;
  done =
      subst (λ found. IfSome found
      (λ name. Sent c.deref_mut.result.now (name_of name) (take c.next_send-answer.new.length c.next_send-answer.new.room) c.next_send-answer.new.self))
      c.in-Some.is c.in-Ok-answer.ensures.some;
}

pub returns-in_default-clause-none : goal.returns-in_default-clause-none
returns-in_default-clause-none c none =
    let found : c.in-Ok-answer.found ≡ None = search rules in
    record {
      node = c.deref_mut.result.now;
      has = search rules;
      holds =
          (subst (λ found. IfNone found ((c.next_send-answer.new.self ≡ c.deref_mut.result.now) × (c.deref_mut.result.now.out.sends ≡ [])))
          found c.in-Ok-answer.ensures.none).1;
    }
