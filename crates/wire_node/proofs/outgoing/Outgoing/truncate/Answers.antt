use Rattle.std.proofs.Common.{◌≤◌, ◌-◌, ◌∙◌, ap, arith, length, sym, take}
use Rattle.std.proofs.lemmas.List.{take-take, take_all}
use Rattle.wire_node.proofs.outgoing.Outgoing.truncate.Goals as goal

pub loop-self-preserved : goal.loop-self-preserved
loop-self-preserved g c =
    let old = c.loop-self.self in
    let left : c.args.len ≤ length old - c.cut_last.result = omega (arith, c.cut_last.ensures.count) in
    ap (take c.args.len) c.cut_last.ensures.left ∙ take-take c.args.len (length old - c.cut_last.result) old left ∙ c.loop-self.invariant

pub returns : goal.returns
returns g c = sym (take_all c.args.len c.loop-self.self (omega arith)) ∙ c.loop-self.invariant
