use Rattle.std.proofs.Common.{◌+◌, subst}
use Rattle.std.specs.Prelude.{◌%◌, ◌^◌}
use Rattle.wire_node.specs.Node.{NodeState}
use Rattle.wire_node.specs.Ticking.{LeavesAsking}
use Rattle.wire_node.proofs.node.WireNode.tick.Goals as goal

pub returns-in-Err-clause-left : goal.returns-in-Err-clause-left
returns-in-Err-clause-left g c =
    let dice = c.args.dice.now in
    let engine = c.make_tick.new.engine in
    let asking = c.make_tick.new.asking in
    subst (λ (n : NodeState). LeavesAsking n.engine n.asking ((n.ticks + 1) % 2 ^ 64) dice engine asking) c.self.view_is
    c.in-Err.ensures.left
