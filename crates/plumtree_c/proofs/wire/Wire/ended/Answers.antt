use Rattle.std.proofs.Common.{drop, refl, subst}
use Rattle.wire_node.specs.Node.{NodeState, Closes}
use Rattle.plumtree_c.specs.Wire.{Does, WireState}
use Rattle.plumtree_c.proofs.wire.Wire.ended.Goals as goal

pub returns-clause-ok : goal.returns-clause-ok
returns-clause-ok c =
    let held = c.self.inside in
    let after : WireState =
    record { node = c.ended.new.self; deliveries = drop held.given held.deliveries; lost = drop held.told held.lost; news = drop held.heard held.news } in
    subst (λ (old : WireState). Does (λ (one other : NodeState). Closes one c.args.number c.args.dice.now other) old after) c.self.view_is
    (record { done = c.in_ok-ended.ensures.ok; deliveries = refl; lost = refl; news = refl })
