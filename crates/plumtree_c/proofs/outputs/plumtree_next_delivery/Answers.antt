use Rattle.std.proofs.Common.{◌≡◌, [], IfNone, IfSome, None, rules, subst, take}
use Rattle.plumtree_c.specs.Plain.{id_of}
use Rattle.plumtree_c.specs.State.{Given}
use Rattle.plumtree_c.proofs.outputs.plumtree_next_delivery.Goals as goal

pub returns-clause-done : goal.returns-clause-done
returns-clause-done c done = record {
  before = c.deref_mut.result.now;
  after = c.next_delivery-answer.new.self;
  had = search rules;
  has = search rules;
  done =
      subst (λ found. IfSome found (λ its. Given c.deref_mut.result.now (id_of its)
      (take c.next_delivery-answer.new.length c.next_delivery-answer.new.room) c.next_delivery-answer.new.self))
      c.in-Some.is c.in-Ok-answer.ensures.some;
}

pub returns-in_default-clause-none : goal.returns-in_default-clause-none
returns-in_default-clause-none c none =
    let found : c.in-Ok-answer.found ≡ None = search rules in
    record {
      node = c.deref_mut.result.now;
      has = search rules;
      holds =
          (subst
          (λ found. IfNone found ((c.next_delivery-answer.new.self ≡ c.deref_mut.result.now) × (c.deref_mut.result.now.out.deliveries ≡ [])))
          found c.in-Ok-answer.ensures.none).1;
    }
