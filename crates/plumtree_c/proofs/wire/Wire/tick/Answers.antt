use Rattle.std.proofs.Common.{drop, refl, subst}
use Rattle.wire_node.specs.Node.{NodeState, Ticks}
use Rattle.plumtree_c.specs.Wire.{Does, TicksInPart, WireState}
use Rattle.wire_node.proofs.Stepping.{on_err}
use Rattle.plumtree_c.proofs.wire.Wire.tick.Goals as goal

pub returns-clause-ok : goal.returns-clause-ok
returns-clause-ok c =
    let held = c.self.inside in
    let after : WireState =
    record { node = c.tick.new.self; deliveries = drop held.given held.deliveries; lost = drop held.told held.lost; news = drop held.heard held.news } in
    subst (λ (old : WireState). Does (λ (one other : NodeState). Ticks one c.args.dice.now other) old after) c.self.view_is
    (record { done = c.in_ok-tick.ensures.ok; deliveries = refl; lost = refl; news = refl })

pub returns-in_err-tick-clause-err : goal.returns-in_err-tick-clause-err
returns-in_err-tick-clause-err c =
    let held = c.self.inside in
    let after : WireState =
    record { node = c.tick.new.self; deliveries = drop held.given held.deliveries; lost = drop held.told held.lost; news = drop held.heard held.news } in
    let failed = c.in_err-tick.ensures in
    on_err _ c.from_residual.result (subst (λ (old : WireState). Does (TicksInPart c.args.dice.now) old after) c.self.view_is
    (record { done = record { made = failed.made; left = failed.left; rest = failed.err }; deliveries = refl; lost = refl; news = refl }))
