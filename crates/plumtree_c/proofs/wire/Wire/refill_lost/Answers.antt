use Rattle.std.proofs.Common.{◌≡◌, ◌∙◌, ◌+◌, ◌≤◌, [], ap, drop, length, rules, subst}
use Rattle.wire_node.specs.Node.{NodeState}
use Rattle.plumtree_c.specs.Wire.{Stays, WireState}
use Rattle.plumtree_c.proofs.Waits.{half_left, none_left, stays_retold}
use Rattle.plumtree_c.proofs.wire.Wire.refill_lost.Goals as goal

pub returns-clause-same : goal.returns-clause-same
returns-clause-same c =
    let held = c.self.inside in
    let old : WireState =
    record { node = held.node; deliveries = drop held.given held.deliveries; lost = drop held.told held.lost; news = drop held.heard held.news } in
    let none : held.lost ≡ [] = search rules in
    subst (λ (wire : WireState). Stays wire (record { node = c.take_lost.new.self; deliveries = old.deliveries; lost = c.from_vec.result; news = old.news }))
    c.self.view_is
    (stays_retold old c.take_lost.new.self c.from_vec.result (none_left held.told held.lost none)
    (c.from_vec.ensures ∙ c.take_lost.ensures.given) c.take_lost.ensures.rest)

pub returns-then-not-is_empty-clause-all : goal.returns-then-not-is_empty-clause-all
returns-then-not-is_empty-clause-all c none =
    let held = c.self.inside in
    let half : held.told + held.told ≤ length held.lost = search rules in
    let left : drop held.told held.lost ≡ [] = ap (λ (wire : WireState). wire.lost) c.self.view_is ∙ none in
    let empty : held.lost ≡ [] = half_left held.told held.lost half left in
    absurd (search (rules, empty))

pub returns-clause-all : goal.returns-clause-all
returns-clause-all c none = ap (λ (node : NodeState). node.engine.lost) c.take_lost.ensures.rest
