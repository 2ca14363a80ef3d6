use Rattle.std.proofs.Common.{◌≡◌, ◌∙◌, [], ◌∷◌, Err, ap, refl, subst, sym}
use Rattle.node_names.specs.declared.ids.MsgId.{MsgId}
use Rattle.std.proofs.lemmas.Result.{err_from_is_err_and}
use Rattle.protocol.specs.PayloadLaw.{next_id}
use Rattle.protocol.specs.declared.stimulus.StimulusOf.TheVariants.{Broadcast}
use Rattle.node_core.specs.Plum.{plum_state}
use Rattle.node_core.specs.impl_proofs.PlumDelivers.{plum_delivers_one}
use Rattle.wire_node.specs.Acting.{machine}
use Rattle.wire_node.specs.Moving.{Broadcasts, Engine}
use Rattle.wire_node.specs.Refusing.{IsRefusal, refusal_of}
use Rattle.wire_node.proofs.Lasts.{last_id_is}
use Rattle.wire_node.proofs.Stops.{refused_by}
use Rattle.wire_node.proofs.engine.Engine.broadcast.Goals as goal

pub returns-clause-ok : goal.returns-clause-ok
returns-clause-ok g c =
    let noted = g.R.Record.noted in
    let core = c.self.inside.core in
    let acts = c.in_ok-make_step.ensures.acts in
    let id = c.in-Some.id in
    let one = plum_delivers_one.of_broadcast core c.args.payload acts.out.sends acts.out.deliveries c.make_step.new.core acts.stepped in
    let its : id ≡ next_id (plum_state core) =
    last_id_is c.self.inside.pending acts.out.deliveries c.make_step.new.pending
    (next_id (plum_state core)) id c.last_id.result one acts.delivers c.last_id.ensures c.in-Some.is in
    let after : Engine = record {
      machine =
          machine c.relieve-is_behind.new.core c.relieve-is_behind.new.entries.items c.relieve-is_behind.new.pending
          (noted c.relieve-is_behind.new.notes) c.relieve-is_behind.new.telling;
      lost = c.relieve-is_behind.new.lost;
      limit = c.self.inside.limit;
      is_behind = c.relieve-is_behind.result;
    } in
    subst (λ (n : Engine). Broadcasts n c.args.payload id after) c.self.view_is
    (record {
      moves = record {
        stepped = machine c.make_step.new.core c.make_step.new.entries.items c.make_step.new.pending (noted c.make_step.new.notes) c.make_step.new.telling;
        acts = acts;
        relieves = c.relieve-is_behind.ensures.relieved;
        same = refl;
      };
      its_id = one ∙ ap (λ (i : MsgId). i ∷ []) (sym its);
      next = its;
    })

pub returns-in_err-make_step-clause-why : goal.returns-in_err-make_step-clause-why
returns-in_err-make_step-clause-why g c =
    let broadcast = Broadcast c.args.payload in
    let e = c.in_err-make_step.field-0.0 in
    let why : IsRefusal c.self.inside.core broadcast (refusal_of e) =
    refused_by {X = Unit {0}} c.self.inside.core broadcast (Err e) c.in_err-make_step.ensures.too_long c.in_err-make_step.ensures.spent in
    let p = err_from_is_err_and c.from_residual.result c.from_residual.ensures.1 in
    rw (p.1, p.2) (subst (λ (n : Engine). IsRefusal n.machine.core broadcast (refusal_of e)) c.self.view_is why)
