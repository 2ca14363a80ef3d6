use Rattle.std.proofs.Common.{◌∙◌, List, ap, inl, inr, nat_eq, position, refl, subst, sym}
use Rattle.std.proofs.lemmas.Bool.{eqb-true}
use Rattle.std.proofs.lemmas.List.Quantifiers.{position-Some}
use Rattle.std.proofs.lemmas.Option.{slice_get-get_or}
use Rattle.std.specs.Prelude.{Option, Some}
use Rattle.node_names.specs.NodeName.{Name}
use Rattle.wire_node.specs.Node.{Closes, EndsPeer, HasNone, NodeState}
use Rattle.protocol.specs.declared.stimulus.StimulusOf.TheVariants.{Down}
use Rattle.wire_node.specs.Receiving.{Connection}
use Rattle.wire_node.specs.Refusing.{IsRefusal, RefusesEnd}
use Rattle.wire_node.proofs.node.WireNode.ended.Goals as goal

pub returns-clause-ok : goal.returns-clause-ok
returns-clause-ok g c =
    let links = c.self.inside.connections.items in
    let its = λ (link : Connection). nat_eq link.number c.args.id.0 in
    let link = c.index.result.now in
    let place = c.in-Some.place in
    let found = position-Some its links place link (ap (position its) (sym c.deref.ensures.value) ∙ sym c.place_of.ensures ∙ c.in-Some.is) in
    let after : NodeState =
    record {
      engine = c.end_peer.new.engine;
      connections = c.forget_link.new.connections.items;
      numbered = c.self.inside.numbered;
      ticks = c.self.inside.ticks;
      asking = c.self.inside.asking;
    } in
    subst (λ (n : NodeState). Closes n c.args.id.0 c.args.dice.now after) c.self.view_is
    (record {
      place = place;
      link = link;
      at = slice_get-get_or links place link found.0 ∙ ap Some (sym c.index.ensures);
      its_number = eqb-true link.number c.args.id.0 (ap (λ (l : Connection). nat_eq l.number c.args.id.0) c.index.ensures ∙ found.1);
      downs =
          subst (λ (p : Option Name). EndsPeer c.self.inside.engine links c.args.id.0 p c.args.dice.now c.end_peer.new.engine) c.peer-peer.ensures
          (subst (λ (ls : List Connection). EndsPeer c.self.inside.engine ls c.args.id.0 c.peer-peer.result c.args.dice.now c.end_peer.new.engine)
          c.deref-2.ensures.value c.in_default-end_peer.ensures.ok);
      connections = c.forget_link.ensures;
      numbered = refl;
      ticks = refl;
      asking = refl;
    })

pub returns-in_default-clause-why : goal.returns-in_default-clause-why
returns-in_default-clause-why g c =
    let its = λ (link : Connection). nat_eq link.number c.args.id.0 in
    inl (
      refl,
      subst (λ (n : NodeState). HasNone n.connections c.args.id.0) c.self.view_is
          (ap (position its) (sym c.deref.ensures.value) ∙ sym c.place_of.ensures ∙ c.in_default.is),
    )

pub returns-in-Err-clause-why : goal.returns-in-Err-clause-why
returns-in-Err-clause-why g c =
    let links = c.self.inside.connections.items in
    let its = λ (link : Connection). nat_eq link.number c.args.id.0 in
    let link = c.index.result.now in
    let place = c.in-Some.place in
    let found = position-Some its links place link (ap (position its) (sym c.deref.ensures.value) ∙ sym c.place_of.ensures ∙ c.in-Some.is) in
    let why = c.in-Err.ensures.why in
    inr (subst
    (λ (n : NodeState). RefusesEnd n.engine.machine.core n.connections c.args.id.0 c.args.dice.now c.of_core.result) c.self.view_is
    (record {
      place = place;
      link = link;
      name = why.0;
      at = slice_get-get_or links place link found.0 ∙ ap Some (sym c.index.ensures);
      its_number = eqb-true link.number c.args.id.0 (ap (λ (l : Connection). nat_eq l.number c.args.id.0) c.index.ensures ∙ found.1);
      its_peer = sym c.peer-peer.ensures ∙ why.1;
      refused = subst (IsRefusal c.self.inside.engine.machine.core (Down why.0 c.args.dice.now)) (sym c.of_core.ensures) why.2;
    }))
