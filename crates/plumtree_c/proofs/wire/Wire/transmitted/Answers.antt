use Rattle.std.proofs.Common.{drop, refl, subst}
use Rattle.plumtree_c.specs.Wire.{Does, WireState, Went}
use Rattle.plumtree_c.proofs.wire.Wire.transmitted.Goals as goal

pub returns : goal.returns
returns c =
    let held = c.self.inside in
    let after : WireState =
    record { node = c.transmitted.new.self; deliveries = drop held.given held.deliveries; lost = drop held.told held.lost; news = drop held.heard held.news } in
    subst (λ (old : WireState). Does (Went c.args.name.now c.args.count) old after) c.self.view_is
    (record { done = record { gone = c.transmitted.ensures.gone; rest = c.transmitted.ensures.rest }; deliveries = refl; lost = refl; news = refl })
