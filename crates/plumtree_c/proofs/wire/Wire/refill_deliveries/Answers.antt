use Rattle.std.proofs.Common.{◌≡◌, ◌∙◌, ◌+◌, ◌≤◌, [], ap, drop, length, rules, subst}
use Rattle.wire_node.specs.Node.{NodeState}
use Rattle.plumtree_c.specs.Wire.{Stays, WireState}
use Rattle.plumtree_c.proofs.Waits.{half_left, none_left, stays_refilled}
use Rattle.plumtree_c.proofs.wire.Wire.refill_deliveries.Goals as goal

pub returns-clause-same : goal.returns-clause-same
returns-clause-same c =
    let held = c.self.inside in
    let old : WireState =
    record { node = held.node; deliveries = drop held.given held.deliveries; lost = drop held.told held.lost; news = drop held.heard held.news } in
    let none : held.deliveries ≡ [] = search rules in
    subst (λ (wire : WireState). Stays wire (record { node = c.take_deliveries.new.self; deliveries = c.from_vec.result; lost = old.lost; news = old.news }))
    c.self.view_is
    (stays_refilled old c.take_deliveries.new.self c.from_vec.result (none_left held.given held.deliveries none)
    (c.from_vec.ensures ∙ c.take_deliveries.ensures.given) c.take_deliveries.ensures.rest)

pub returns-then-not-is_empty-clause-all : goal.returns-then-not-is_empty-clause-all
returns-then-not-is_empty-clause-all c none =
    let held = c.self.inside in
    let half : held.given + held.given ≤ length held.deliveries = search rules in
    let left : drop held.given held.deliveries ≡ [] = ap (λ (wire : WireState). wire.deliveries) c.self.view_is ∙ none in
    let empty : held.deliveries ≡ [] = half_left held.given held.deliveries half left in
    absurd (search (rules, empty))

pub returns-clause-all : goal.returns-clause-all
returns-clause-all c none = ap (λ (node : NodeState). node.engine.machine.pending) c.take_deliveries.ensures.rest
