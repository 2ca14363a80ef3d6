use Rattle.std.proofs.Common.{Err, refl, subst}
use Rattle.protocol.specs.declared.stimulus.StimulusOf.TheVariants.{Down}
use Rattle.std.proofs.lemmas.Result.{err_from_is_err_and}
use Rattle.wire_node.specs.Acting.{machine}
use Rattle.wire_node.specs.Moving.{Engine, GoesAway}
use Rattle.wire_node.specs.Refusing.{IsRefusal, refusal_of}
use Rattle.wire_node.proofs.Stops.{refused_by}
use Rattle.wire_node.proofs.engine.Engine.take_down.Goals as goal

pub returns-clause-ok : goal.returns-clause-ok
returns-clause-ok g c =
    let after : Engine = record {
      machine =
          machine c.take_down.new.core c.take_down.new.entries.items c.take_down.new.pending (g.R.Record.noted c.take_down.new.notes) c.take_down.new.telling;
      lost = c.take_down.new.lost;
      limit = c.self.inside.limit;
      is_behind = c.self.inside.is_behind;
    } in
    subst (λ (n : Engine). GoesAway n c.args.name c.args.dice.now after) c.self.view_is
    (record { down = c.in_ok-take_down.ensures.down; noted = c.in_ok-take_down.ensures.lost; same = (refl, refl) })

pub returns-in_err-take_down-clause-why : goal.returns-in_err-take_down-clause-why
returns-in_err-take_down-clause-why g c =
    let down = Down c.args.name c.args.dice.now in
    let e = c.in_err-take_down.field-0.0 in
    let why : IsRefusal c.self.inside.core down (refusal_of e) =
    refused_by {X = Unit {0}} c.self.inside.core down (Err e) c.in_err-take_down.ensures.too_long c.in_err-take_down.ensures.spent in
    let p = err_from_is_err_and c.from_residual.result c.from_residual.ensures.1 in
    rw (p.1, p.2) (subst (λ (n : Engine). IsRefusal n.machine.core down (refusal_of e)) c.self.view_is why)
