use Rattle.std.proofs.Common.{drop, refl, subst}
use Rattle.std.proofs.lemmas.Option.{IfSome_then}
use Rattle.plumtree_c.specs.Plain.{name_of}
use Rattle.plumtree_c.specs.Wire.{Loses, Tells, WireState}
use Rattle.plumtree_c.specs.declared.plain.Name.{Name}
use Rattle.plumtree_c.proofs.Waits.{tells_on}
use Rattle.plumtree_c.proofs.wire.Wire.tell_first.Goals as goal

pub returns-clause-some : goal.returns-clause-some
returns-clause-some c =
    let held = c.self.inside in
    let before = drop held.told held.lost in
    let left = drop c.tell.new.told c.tell.new.names in
    let after : WireState = record { node = held.node; deliveries = drop held.given held.deliveries; lost = left; news = drop held.heard held.news } in
    IfSome_then c.tell.result
    {P = λ (name : Name). Tells before (name_of name) left}
    {Q = λ (name : Name). Loses (name_of name) c.args.self.now after}
    c.tell.ensures.some
    (λ (name : Name) tells. subst (λ (old : WireState). Loses (name_of name) old after) c.self.view_is
    (record { tells = tells_on before (name_of name) left held.node.engine.lost tells; deliveries = refl; news = refl; beside = refl }))
