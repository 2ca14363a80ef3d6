use Rattle.std.proofs.Common.{IfSome, drop, refl, subst, take}
use Rattle.std.proofs.lemmas.Option.{IfSome_then}
use Rattle.std.proofs.lemmas.Result.{IfOk-weaker}
use Rattle.std.specs.Prelude.{Option}
use Rattle.plumtree_c.specs.Plain.{id_of}
use Rattle.plumtree_c.specs.State.{Gives}
use Rattle.plumtree_c.specs.Wire.{Delivers, WireState}
use Rattle.plumtree_c.specs.declared.plain.Id.{Id}
use Rattle.plumtree_c.proofs.Waits.{gives_on}
use Rattle.plumtree_c.proofs.wire.Wire.give_first.Goals as goal

pub returns-clause-some : goal.returns-clause-some
returns-clause-some c =
    let held = c.self.inside in
    let payload = take c.give.new.count c.give.new.room in
    let before = drop held.given held.deliveries in
    let left = drop c.give.new.given c.give.new.deliveries in
    let lost = drop held.told held.lost in
    let after : WireState = record { node = held.node; deliveries = left; lost = lost; news = drop held.heard held.news } in
    IfOk-weaker c.give.result
    (λ (found : Option Id). IfSome found (λ (id : Id). Gives before (id_of id) payload left))
    (λ (found : Option Id). IfSome found (λ (id : Id). Delivers (id_of id) payload c.args.self.now after))
    (λ (found : Option Id) some. IfSome_then found
    {P = λ (id : Id). Gives before (id_of id) payload left}
    {Q = λ (id : Id). Delivers (id_of id) payload c.args.self.now after}
    some
    (λ (id : Id) gives. subst (λ (old : WireState). Delivers (id_of id) payload old after) c.self.view_is
    (record { gives = gives_on before (id_of id) payload left held.node.engine.machine.pending gives; lost = refl; news = refl; beside = refl })))
    c.give.ensures.some
