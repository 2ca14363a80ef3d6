use Rattle.std.proofs.Common.{drop, refl, subst}
use Rattle.plumtree_c.specs.Wire.{Does, Joins, WireState}
use Rattle.plumtree_c.proofs.wire.Wire.join.Goals as goal

pub returns-clause-ok : goal.returns-clause-ok
returns-clause-ok c =
    let held = c.self.inside in
    let after : WireState =
    record { node = c.join.new.self; deliveries = drop held.given held.deliveries; lost = drop held.told held.lost; news = drop held.heard held.news } in
    subst (λ (old : WireState). Does (Joins c.args.contact c.args.dice.now) old after) c.self.view_is
    (record { done = record { moves = c.in_ok-join.ensures.ok; rest = c.join.ensures.rest }; deliveries = refl; lost = refl; news = refl })
