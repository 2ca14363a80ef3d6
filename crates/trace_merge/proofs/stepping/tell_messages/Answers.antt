-- One more message, and all of them.
use Rattle.std.proofs.Common.{◌≤◌, arith, inl, inr, length, subst, sym}
use Rattle.std.proofs.lemmas.List.{take_all}
use Rattle.protocol.specs.Delivery.{Delivery}
use Rattle.protocol.specs.Lists.{IsOneOf}
use Rattle.trace_merge.specs.Numbers.{greatest}
use Rattle.trace_merge.proofs.ListLemmas.{one_of-take}
use Rattle.trace_merge.proofs.stepping.tell_messages.Goals as goal

pub loop-delivery-preserved : goal.loop-delivery-preserved
loop-delivery-preserved g c d one =
    elim (one_of-take c.args.given.now c.loop-delivery.delivery-index c.delivery-item.result d c.loop-delivery-test.true c.delivery-item.is one) [
      | inl old ↦ c.loop-delivery.invariant d old
      | inr this ↦ subst (λ (x : Delivery). x.id.seq ≤ greatest) (sym this) (subst (λ (x : Delivery). x.id.seq ≤ greatest) c.delivery.view_is c.tell.ensures)
    ]

pub returns : goal.returns
returns g c d one =
    let all : length c.args.given.now ≤ c.loop-delivery.delivery-index = omega (arith, c.loop-delivery-test.false) in
    c.loop-delivery.invariant d (subst (IsOneOf d) (sym (take_all c.loop-delivery.delivery-index c.args.given.now all)) one)
