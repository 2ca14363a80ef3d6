use Rattle.std.proofs.Common.{◌≡◌, [], IfNone, IfSome, take}
use Rattle.std.proofs.lemmas.Option.{IfSome_then}
use Rattle.std.proofs.lemmas.Result.{IfOk-weaker, on_err_weaker}
use Rattle.std.specs.Prelude.{Option}
use Rattle.plumtree_c.specs.Plain.{id_of}
use Rattle.plumtree_c.specs.Wire.{Delivers, HasNoDelivery}
use Rattle.plumtree_c.specs.declared.plain.Id.{Id}
use Rattle.plumtree_c.proofs.Waits.{delivers_on, no_delivery_waits, none_both, ok_both, stays_on}
use Rattle.plumtree_c.proofs.wire.Wire.next_delivery.Goals as goal

pub returns-clause-some : goal.returns-clause-some
returns-clause-some c =
    let old = c.args.self.now in
    let mid = c.refill_deliveries.new.self in
    let new = c.give_first.new.self in
    let payload = take c.give_first.new.length c.give_first.new.room in
    IfOk-weaker c.give_first.result
    (λ (found : Option Id). IfSome found (λ (id : Id). Delivers (id_of id) payload mid new))
    (λ (found : Option Id). IfSome found (λ (id : Id). Delivers (id_of id) payload old new))
    (λ (found : Option Id) some. IfSome_then found
    {P = λ (id : Id). Delivers (id_of id) payload mid new}
    {Q = λ (id : Id). Delivers (id_of id) payload old new}
    some
    (λ (id : Id) delivers. delivers_on old mid new (id_of id) payload c.refill_deliveries.ensures.same delivers))
    c.give_first.ensures.some

pub returns-clause-none : goal.returns-clause-none
returns-clause-none c =
    let old = c.args.self.now in
    let mid = c.refill_deliveries.new.self in
    let new = c.give_first.new.self in
    ok_both c.give_first.result
    (λ (found : Option Id). IfNone found (new ≡ mid))
    (λ (found : Option Id). IfNone found (mid.deliveries ≡ []))
    (λ (found : Option Id). IfNone found (HasNoDelivery old new))
    (λ (found : Option Id) none empty.
    none_both found (no_delivery_waits old mid new c.refill_deliveries.ensures.same c.refill_deliveries.ensures.all) none empty)
    c.give_first.ensures.none c.give_first.ensures.empty

pub returns-clause-err : goal.returns-clause-err
returns-clause-err c =
    on_err_weaker c.give_first.result
    (stays_on c.args.self.now c.refill_deliveries.new.self c.give_first.new.self c.refill_deliveries.ensures.same) c.give_first.ensures.err
