use Rattle.std.proofs.Common.{◌≡◌, ◌∙◌, ℕ, ap, inl, inr, length, nat_eq, position, refl, rules, set, subst, sym}
use Rattle.std.proofs.lemmas.Bool.{eqb-true}
use Rattle.std.proofs.lemmas.List.Quantifiers.{position-Some}
use Rattle.std.proofs.lemmas.Option.{slice_get-get_or}
use Rattle.std.proofs.lemmas.Result.{IfOk-at_ok}
use Rattle.std.specs.Prelude.{Some, drop}
use Rattle.wire_node.specs.Node.{HasNone, Hears, HearsFirst, NodeState}
use Rattle.wire_node.specs.Receiving.{Connection, Draws, IsLeft, IsPartial, Receives}
use Rattle.wire_node.specs.Refusing.{IsStop}
use Rattle.wire_node.specs.declared.connections.ReceiveError.{ReceiveError}
use Rattle.wire_node.proofs.Stops.{err_at, left_at}
use Rattle.wire_node.proofs.node.WireNode.receive.Goals as goal

pub returns-in_default-clause-err : goal.returns-in_default-clause-err
returns-in_default-clause-err g c =
    let its = λ (link : Connection). nat_eq link.number c.args.id.0 in
    inr (
      search rules,
      refl,
      subst (λ (n : NodeState). HasNone n.connections c.args.id.0) c.self.view_is
          (ap (position its) (sym c.deref.ensures.value) ∙ sym c.place_of.ensures ∙ c.in_default.is),
      refl,
    )

pub returns-in-Err-clause-err : goal.returns-in-Err-clause-err
returns-in-Err-clause-err g c =
    let draws = g.D.DiceSource.to_come in
    let links = c.self.inside.connections.items in
    let its = λ (link : Connection). nat_eq link.number c.args.id.0 in
    let link = c.index_mut.result.now in
    let link' = c.receive_at-taken.new.link in
    let place = c.in-Some.place in
    let count = c.receive_at-taken.result.0 in
    let receives = c.receive_at-taken.ensures.receives in
    let failed : ReceiveError = record { taken = count; error = c.in-Err.error } in
    let found = position-Some its links place link (ap (position its) (sym c.deref.ensures.value) ∙ sym c.place_of.ensures ∙ c.in-Some.is) in
    let after : NodeState =
    record {
      engine = c.receive_at-taken.new.engine;
      connections = set links place link';
      numbered = c.self.inside.numbered;
      ticks = c.self.inside.ticks;
      asking = c.self.inside.asking;
    } in
    inl (subst
    (λ (n : NodeState).
    HearsFirst n c.args.id.0 c.args.bytes.now (draws c.args.source.now) failed after (draws c.receive_at-taken.new.source))
    c.self.view_is
    (record {
      dealt = receives.0;
      hears = record {
        place = place;
        link = link;
        link' = link';
        at = slice_get-get_or links place link found.0 ∙ ap Some (sym c.index_mut.ensures.value);
        its_number = eqb-true link.number c.args.id.0 (ap (λ (l : Connection). nat_eq l.number c.args.id.0) c.index_mut.ensures.value ∙ found.1);
        receives = receives.1;
        connections = refl;
        numbered = refl;
        ticks = refl;
        asking = refl;
      };
      drawn = subst (λ r. IsLeft r receives.0 (draws c.receive_at-taken.new.source)) c.in-Err.is receives.2;
      why =
          err_at (IsStop c.receive_at-taken.new.engine.machine.core link'.left (drop count c.args.bytes.now)) c.receive_at-taken.result.1 c.in-Err.error
          c.in-Err.is c.receive_at-taken.ensures.why;
    }))

pub returns-clause-ok : goal.returns-clause-ok
returns-clause-ok g c =
    let draws = g.D.DiceSource.to_come in
    let links = c.self.inside.connections.items in
    let its = λ (link : Connection). nat_eq link.number c.args.id.0 in
    let link = c.index_mut.result.now in
    let link' = c.receive_at-taken.new.link in
    let place = c.in-Some.place in
    let engine = c.receive_at-taken.new.engine in
    let left = draws c.receive_at-taken.new.source in
    let found = position-Some its links place link (ap (position its) (sym c.deref.ensures.value) ∙ sym c.place_of.ensures ∙ c.in-Some.is) in
    let after : NodeState =
    record {
      engine = engine;
      connections = set links place link';
      numbered = c.self.inside.numbered;
      ticks = c.self.inside.ticks;
      asking = c.self.inside.asking;
    } in
    let all =
    IfOk-at_ok (λ _. (c.receive_at-taken.result.0 ≡ length c.args.bytes.now) × IsPartial link'.left) c.in_default-ended.is c.receive_at-taken.ensures.partial in
    let receives = c.receive_at-taken.ensures.receives in
    let dealt : left ≡ receives.0 = left_at c.receive_at-taken.result.1 _ receives.0 left c.in_default-ended.is receives.2 in
    subst
    (λ (n : NodeState).
    (hears : Hears n c.args.id.0 c.args.bytes.now (draws c.args.source.now) (length c.args.bytes.now) after left) × IsPartial hears.link'.left)
    c.self.view_is (
      record {
        place = place;
        link = link;
        link' = link';
        at = slice_get-get_or links place link found.0 ∙ ap Some (sym c.index_mut.ensures.value);
        its_number = eqb-true link.number c.args.id.0 (ap (λ (l : Connection). nat_eq l.number c.args.id.0) c.index_mut.ensures.value ∙ found.1);
        receives =
            subst (λ (n : ℕ). Receives c.self.inside.engine link c.args.bytes.now (draws c.args.source.now) n engine link' left) all.0
            (subst
            (λ (d : Draws). Receives c.self.inside.engine link c.args.bytes.now (draws c.args.source.now) c.receive_at-taken.result.0 engine link' d)
            (sym dealt) receives.1);
        connections = refl;
        numbered = refl;
        ticks = refl;
        asking = refl;
      },
      all.1,
    )
