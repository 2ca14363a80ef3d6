use Rattle.std.proofs.Common.{drop, refl, subst}
use Rattle.plumtree_c.specs.Wire.{Does, WireState, Leaves}
use Rattle.plumtree_c.proofs.wire.Wire.unreachable.Goals as goal

pub returns-clause-ok : goal.returns-clause-ok
returns-clause-ok c =
    let held = c.self.inside in
    let after : WireState =
    record { node = c.unreachable.new.self; deliveries = drop held.given held.deliveries; lost = drop held.told held.lost; news = drop held.heard held.news } in
    subst (λ (old : WireState). Does (Leaves c.args.name c.args.dice.now) old after) c.self.view_is
    (record { done = record { away = c.in_ok-unreachable.ensures.ok; rest = c.unreachable.ensures.rest }; deliveries = refl; lost = refl; news = refl })
