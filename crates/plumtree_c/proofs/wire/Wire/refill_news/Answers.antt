use Rattle.std.proofs.Common.{◌≡◌, ◌∙◌, ◌+◌, ◌≤◌, [], ap, drop, length, rules, subst}
use Rattle.wire_node.specs.Node.{NodeState}
use Rattle.plumtree_c.specs.Wire.{Stays, WireState}
use Rattle.plumtree_c.proofs.Waits.{half_left, none_left, stays_informed}
use Rattle.plumtree_c.proofs.wire.Wire.refill_news.Goals as goal

pub returns-then-not-is_empty-clause-all : goal.returns-then-not-is_empty-clause-all
returns-then-not-is_empty-clause-all c none =
    let held = c.self.inside in
    let half : held.heard + held.heard ≤ length held.news = search rules in
    let left : drop held.heard held.news ≡ [] = ap (λ (wire : WireState). wire.news) c.self.view_is ∙ none in
    let empty : held.news ≡ [] = half_left held.heard held.news half left in
    absurd (search (rules, empty))

pub returns-clause-ok : goal.returns-clause-ok
returns-clause-ok c =
    let held = c.self.inside in
    let old : WireState =
    record { node = held.node; deliveries = drop held.given held.deliveries; lost = drop held.told held.lost; news = drop held.heard held.news } in
    let none : held.news ≡ [] = search rules in
    subst (λ (wire : WireState). Stays wire (record { node = c.take_news.new.self; deliveries = old.deliveries; lost = old.lost; news = c.from_vec.result }))
    c.self.view_is
    (stays_informed old c.take_news.new.self c.from_vec.result (none_left held.heard held.news none)
    (c.from_vec.ensures ∙ c.in_ok-take_news.ensures.given) c.in_ok-take_news.ensures.rest)

pub returns-clause-all : goal.returns-clause-all
returns-clause-all c none = ap (λ (node : NodeState). node.engine.machine.news) c.in_ok-take_news.ensures.rest
