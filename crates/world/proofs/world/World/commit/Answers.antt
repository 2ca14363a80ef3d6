-- The log's new entry says what happened to the group, so the longer log is a run too.
use Rattle.std.proofs.Common.{◌≡◌, ◌<◌, ◌++◌, [], ◌∷◌, length, sym, ◌∙◌, ap, subst}
use Rattle.world.specs.Flight.{flying}
use Rattle.world.specs.Group.{Group, Logged}
use Rattle.world.specs.Plan.{IsReady, changed, launched, nodes_after, planned, staying}
use Rattle.world.specs.Run.{Happens}
use Rattle.world.proofs.RunLemmas.{refused_anyway, run_goes_on, same_group, same_world}
use Rattle.world.proofs.world.World.commit.Goals as goal

pub returns-in_err-make_room-clause-err : goal.returns-in_err-make_room-clause-err
returns-in_err-make_room-clause-err g c =
    refused_anyway c.from_residual.result _
    (same_world c.self.inside.limits
    (record { nodes = c.self.inside.nodes.items; sent = c.self.inside.sent.items; flight = flying c.self.inside.flight })
    c.self.inside.log.items c.make_room.new.nodes.items c.make_room.new.sent.items
    (flying c.make_room.new.flight)
    c.make_room.new.log.items
    c.make_room.ensures.nodes c.make_room.ensures.sent c.make_room.ensures.flight c.make_room.ensures.log ∙ c.self.view_is)

pub make_change-requires-clause-ready : goal.make_change-requires-clause-ready
make_change-requires-clause-ready g c =
    let ready : IsReady g.C.Core.is_turn c.self.inside.nodes.items c.self.inside.sent.items c.args.plan.entry c.args.plan.change =
    subst (λ (w : Logged g.row.C.Denot g.row.C-Note.Denot). IsReady g.C.Core.is_turn w.group.nodes w.group.sent c.args.plan.entry c.args.plan.change)
    (sym c.self.view_is) c.requires.ready in
    subst (λ sent. IsReady g.C.Core.is_turn c.make_room.new.nodes.items sent c.args.plan.entry c.args.plan.change)
    (sym (c.deref.ensures.value ∙ c.make_room.ensures.sent))
    (subst (λ nodes. IsReady g.C.Core.is_turn nodes c.self.inside.sent.items c.args.plan.entry c.args.plan.change) (sym c.make_room.ensures.nodes) ready)

pub returns-in_err-make_change-clause-err : goal.returns-in_err-make_change-clause-err
returns-in_err-make_change-clause-err g c =
    refused_anyway c.from_residual-in_err-make_change.result _
    (same_world c.self.inside.limits
    (record { nodes = c.self.inside.nodes.items; sent = c.self.inside.sent.items; flight = flying c.self.inside.flight })
    c.self.inside.log.items c.make_change.new.nodes.items c.make_room.new.sent.items
    (flying c.make_room.new.flight)
    c.make_room.new.log.items
    (c.in_err-make_change.ensures.err ∙ c.make_room.ensures.nodes) c.make_room.ensures.sent c.make_room.ensures.flight c.make_room.ensures.log ∙ c.self.view_is)

pub post-requires-clause-leaving : goal.post-requires-clause-leaving
post-requires-clause-leaving g c x is =
    subst (λ flight. x < length flight) (sym c.make_room.ensures.flight)
    (subst (λ (w : Logged g.row.C.Denot g.row.C-Note.Denot). x < length w.group.flight) (sym c.self.view_is) (c.requires.leaving x is))

pub returns-clause-group : goal.returns-clause-group
returns-clause-group g c =
    let before : Group g.row.C.Denot g.row.C-Note.Denot =
    record { nodes = c.self.inside.nodes.items; sent = c.self.inside.sent.items; flight = flying c.self.inside.flight } in
    same_group before
    (changed g.C.Core.after before.nodes before.sent c.args.plan.entry c.args.plan.change)
    c.args.plan.packets.items c.args.plan.leaving c.args.plan.again c.make_change.new.nodes.items c.post.new.sent.items
    (flying c.post.new.flight)
    (c.in_ok-make_change.ensures.ok ∙ (λ i. nodes_after (changed g.C.Core.after (c.make_room.ensures.nodes i)
    ((c.deref.ensures.value ∙ c.make_room.ensures.sent) i) c.args.plan.entry c.args.plan.change) (c.make_room.ensures.nodes i)))
    (c.post.ensures.sent ∙ ap (λ ps. ps ++ c.args.plan.packets.items) c.make_room.ensures.sent)
    (c.post.ensures.flight ∙ (λ i. staying (c.make_room.ensures.flight i) c.args.plan.leaving ++ launched c.args.plan.again
    (length (c.make_room.ensures.sent i)) (length c.args.plan.packets.items)))
    ∙ ap (λ (w : Logged g.row.C.Denot g.row.C-Note.Denot).
    planned g.C.Core.after w.group c.args.plan.entry c.args.plan.change c.args.plan.packets.items c.args.plan.leaving c.args.plan.again)
    c.self.view_is

pub invariant_of-self-2 : goal.invariant_of-self-2
invariant_of-self-2 g c =
    let before : Group g.row.C.Denot g.row.C-Note.Denot =
    record { nodes = c.self.inside.nodes.items; sent = c.self.inside.sent.items; flight = flying c.self.inside.flight } in
    let after : Group g.row.C.Denot g.row.C-Note.Denot =
    record { nodes = c.make_change.new.nodes.items; sent = c.post.new.sent.items; flight = flying c.post.new.flight } in
    let same : after ≡ planned g.C.Core.after before c.args.plan.entry c.args.plan.change c.args.plan.packets.items c.args.plan.leaving c.args.plan.again =
    same_group before
    (changed g.C.Core.after before.nodes before.sent c.args.plan.entry c.args.plan.change)
    c.args.plan.packets.items c.args.plan.leaving c.args.plan.again c.make_change.new.nodes.items c.post.new.sent.items
    (flying c.post.new.flight)
    (c.in_ok-make_change.ensures.ok ∙ (λ i. nodes_after (changed g.C.Core.after (c.make_room.ensures.nodes i)
    ((c.deref.ensures.value ∙ c.make_room.ensures.sent) i) c.args.plan.entry c.args.plan.change) (c.make_room.ensures.nodes i)))
    (c.post.ensures.sent ∙ ap (λ ps. ps ++ c.args.plan.packets.items) c.make_room.ensures.sent)
    (c.post.ensures.flight ∙ (λ i. staying (c.make_room.ensures.flight i) c.args.plan.leaving ++ launched c.args.plan.again
    (length (c.make_room.ensures.sent i)) (length c.args.plan.packets.items))) in
    let happens : Happens g.C.Core.state g.C.Core.starts g.C.Core.steps c.self.inside.limits before c.args.plan.entry
    (planned g.C.Core.after before c.args.plan.entry c.args.plan.change c.args.plan.packets.items c.args.plan.leaving c.args.plan.again) =
    subst (λ (w : Logged g.row.C.Denot g.row.C-Note.Denot). Happens g.C.Core.state g.C.Core.starts g.C.Core.steps w.limits w.group c.args.plan.entry
    (planned g.C.Core.after w.group c.args.plan.entry c.args.plan.change c.args.plan.packets.items c.args.plan.leaving c.args.plan.again))
    (sym c.self.view_is) c.requires.happens in (
      run_goes_on g.C.Core.state g.C.Core.starts g.C.Core.steps c.self.inside.limits c.self.inside.log.items
          c.put_last.new.items.items before after c.args.plan.entry c.self.invariant.0
          (subst (λ group. Happens g.C.Core.state g.C.Core.starts g.C.Core.steps c.self.inside.limits before c.args.plan.entry group) (sym same) happens)
          (c.put_last.ensures.items ∙ ap (λ es. es ++ c.args.plan.entry ∷ []) c.make_room.ensures.log),
      c.in_ok-make_change.ensures.named,
      c.post.ensures.whole,
    )
