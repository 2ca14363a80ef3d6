use Rattle.std.proofs.Common.{drop, refl, subst}
use Rattle.plumtree_c.specs.Wire.{Does, TellsNews, WireState}
use Rattle.plumtree_c.proofs.wire.Wire.tell_news.Goals as goal

pub returns : goal.returns
returns c =
    let held = c.self.inside in
    let after : WireState =
    record { node = c.tell_news.new.self; deliveries = drop held.given held.deliveries; lost = drop held.told held.lost; news = drop held.heard held.news } in
    subst (λ (old : WireState). Does (TellsNews c.args.tells) old after) c.self.view_is
    (record { done = c.tell_news.ensures; deliveries = refl; lost = refl; news = refl })
