-- One more frame, and all of them.
use Rattle.std.proofs.Common.{◌≤◌, arith, inl, inr, length, subst, sym}
use Rattle.std.proofs.lemmas.List.{take_all}
use Rattle.node_names.specs.NodeName.{Name}
use Rattle.protocol.specs.Lists.{IsOneOf}
use Rattle.frames.specs.Frame.{Frame}
use Rattle.trace_merge.specs.Numbers.{greatest}
use Rattle.trace_merge.proofs.ListLemmas.{one_of-take}
use Rattle.trace_merge.proofs.stepping.tell_numbers.Goals as goal

pub loop-send-preserved : goal.loop-send-preserved
loop-send-preserved g c send one =
    elim (one_of-take c.args.sends.now c.loop-send.send-index c.send-item.result send c.loop-send-test.true c.send-item.is one) [
      | inl old ↦ c.loop-send.invariant send old
      | inr this ↦ subst (λ (x : Name × Frame). x.1.number ≤ greatest) (sym this) (subst (λ n. n ≤ greatest) c.number.ensures.value c.tell.ensures)
    ]

pub returns : goal.returns
returns g c send one =
    let all : length c.args.sends.now ≤ c.loop-send.send-index = omega (arith, c.loop-send-test.false) in
    c.loop-send.invariant send (subst (IsOneOf send) (sym (take_all c.loop-send.send-index c.args.sends.now all)) one)
