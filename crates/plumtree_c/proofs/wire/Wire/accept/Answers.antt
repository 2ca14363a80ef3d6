use Rattle.std.proofs.Common.{drop, refl, subst}
use Rattle.plumtree_c.specs.Wire.{Does, WireState, Accepts}
use Rattle.plumtree_c.proofs.wire.Wire.accept.Goals as goal

pub returns-clause-ok : goal.returns-clause-ok
returns-clause-ok c =
    let held = c.self.inside in
    let after : WireState =
    record { node = c.accept.new.self; deliveries = drop held.given held.deliveries; lost = drop held.told held.lost; news = drop held.heard held.news } in
    subst (λ (old : WireState). Does (Accepts c.in_ok-id.id.0) old after) c.self.view_is
    (record { done = record { next = c.in_ok-id.ensures.number; rest = c.in_ok-id.ensures.ok }; deliveries = refl; lost = refl; news = refl })
