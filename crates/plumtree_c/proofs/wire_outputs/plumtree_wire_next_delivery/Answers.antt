use Rattle.std.proofs.Common.{IfNone, IfSome, inl, rules, subst, take}
use Rattle.plumtree_c.specs.Plain.{id_of}
use Rattle.plumtree_c.specs.Wire.{Delivers, HasNoDelivery}
use Rattle.plumtree_c.proofs.wire_outputs.plumtree_wire_next_delivery.Goals as goal

pub returns-in-Some-clause-done : goal.returns-in-Some-clause-done
returns-in-Some-clause-done c done = record {
  before = c.deref_mut.result.now;
  after = c.next_delivery-answer.new.self;
  had = search rules;
  has = search rules;
  done =
      subst (λ found. IfSome found (λ its.
      Delivers (id_of its) (take c.next_delivery-answer.new.length c.next_delivery-answer.new.room) c.deref_mut.result.now c.next_delivery-answer.new.self))
      c.in-Some.is c.in-Ok-answer.ensures.some;
}

pub returns-in-None-clause-stays : goal.returns-in-None-clause-stays
returns-in-None-clause-stays c none = inl (record {
  before = c.deref_mut.result.now;
  after = c.next_delivery-answer.new.self;
  had = search rules;
  has = search rules;
  done = (subst (λ found. IfNone found (HasNoDelivery c.deref_mut.result.now c.next_delivery-answer.new.self)) c.in-None.is c.in-Ok-answer.ensures.none).stays;
})

pub returns-in-None-clause-none : goal.returns-in-None-clause-none
returns-in-None-clause-none c none = record {
  before = c.deref_mut.result.now;
  after = c.next_delivery-answer.new.self;
  had = search rules;
  has = search rules;
  done = subst (λ found. IfNone found (HasNoDelivery c.deref_mut.result.now c.next_delivery-answer.new.self)) c.in-None.is c.in-Ok-answer.ensures.none;
}

pub returns-in-Err-answer-clause-stays : goal.returns-in-Err-answer-clause-stays
returns-in-Err-answer-clause-stays c refused = inl (record {
  before = c.deref_mut.result.now;
  after = c.next_delivery-answer.new.self;
  had = search rules;
  has = search rules;
  done = c.in-Err-answer.ensures.err;
})
