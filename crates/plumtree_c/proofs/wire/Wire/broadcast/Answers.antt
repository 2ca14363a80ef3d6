use Rattle.std.proofs.Common.{◌≡◌, List, ℕ, drop, refl, rules, subst}
use Rattle.wire_node.specs.Moving.{Broadcasts}
use Rattle.plumtree_c.specs.Wire.{Does, WireState, Sends}
use Rattle.plumtree_c.proofs.wire.Wire.broadcast.Goals as goal

pub returns-clause-ok : goal.returns-clause-ok
returns-clause-ok c =
    let held = c.self.inside in
    let after : WireState =
    record { node = c.broadcast.new.self; deliveries = drop held.given held.deliveries; lost = drop held.told held.lost; news = drop held.heard held.news } in
    let same : c.in_ok-payload.payload ≡ c.args.payload.now = search rules in
    let broadcasts = subst (λ (bytes : List ℕ). Broadcasts held.node.engine bytes c.in_ok-id.id c.broadcast.new.self.engine) same c.in_ok-id.ensures.ok in
    subst (λ (old : WireState). Does (Sends c.args.payload.now c.in_ok-id.id.seq) old after) c.self.view_is
    (record {
      done = record { id = c.in_ok-id.id; broadcasts = broadcasts; its_number = refl; rest = c.broadcast.ensures.rest };
      deliveries = refl;
      lost = refl;
      news = refl;
    })
