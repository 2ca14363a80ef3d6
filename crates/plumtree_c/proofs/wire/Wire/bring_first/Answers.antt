use Rattle.std.proofs.Common.{drop, refl, subst}
use Rattle.std.proofs.lemmas.Option.{IfSome_then}
use Rattle.plumtree_c.specs.Wire.{Brings, Informs, WireState}
use Rattle.plumtree_c.specs.declared.plain.PlainNews.{PlainNews}
use Rattle.plumtree_c.proofs.Waits.{brings_on}
use Rattle.plumtree_c.proofs.wire.Wire.bring_first.Goals as goal

pub returns-clause-some : goal.returns-clause-some
returns-clause-some c =
    let held = c.self.inside in
    let before = drop held.heard held.news in
    let left = drop c.bring.new.heard c.bring.new.news in
    let after : WireState = record { node = held.node; deliveries = drop held.given held.deliveries; lost = drop held.told held.lost; news = left } in
    IfSome_then c.bring.result
    {P = λ (its : PlainNews). Brings before its left}
    {Q = λ (its : PlainNews). Informs its c.args.self.now after}
    c.bring.ensures.some
    (λ (its : PlainNews) brings. subst (λ (old : WireState). Informs its old after) c.self.view_is
    (record { brings = brings_on before its left held.node.engine.machine.news brings; deliveries = refl; lost = refl; beside = refl }))
