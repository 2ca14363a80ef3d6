use Rattle.std.proofs.Common.{◌≡◌, ◌∙◌, List, ap, length, map, refl, rules, subst, sym}
use Rattle.node_names.specs.NodeName.{Name}
use Rattle.protocol.specs.Stimulus.{lent}
use Rattle.node_core.specs.Plum.{plum_state}
use Rattle.node_core.specs.Steps.{plum_after}
use Rattle.wire_node.specs.Acting.{AreSettled}
use Rattle.wire_node.specs.Waiting.{settled}
use Rattle.wire_node.proofs.Drafting.{undrafted_back}
use Rattle.wire_node.proofs.Filling.{cut_back}
use Rattle.node_core.proofs.NewsLemmas.{TellsOf, kept_of, tells_of}
use Rattle.wire_node.proofs.Stepping.{at_err, on_ok, settled_more, step_acts}
use Rattle.wire_node.proofs.step.make_next.Goals as goal

pub returns-clause-acts : goal.returns-clause-acts
returns-clause-acts g c =
    let core = c.args.core.now in
    let its = lent c.as_ref-lent.result in
    let advanced = on_ok (c.advance.new.self ≡ plum_after core its) c.advance.result (sym c.is_err.ensures.value ∙ c.if-is_err.false) c.advance.ensures.ok in
    let stimulus = c.args.stimulus.now in
    let told = c.args.telling.now in
    let moved = c.in_ok-turn.field-0.moved in
    let before = (plum_state core).active in
    let after = (plum_state (plum_after core its)).active in
    let kept : c.in_ok-change.change ≡ kept_of told.tells moved stimulus before =
    c.in_ok-change.ensures ∙ ap (λ (names : List Name). kept_of told.tells moved stimulus names) c.active.ensures in
    let tells : TellsOf stimulus told before c.keep.new.self after =
    tells_of stimulus told c.keep.new.self c.in_ok-change.change moved before after c.requires.told kept c.keep.ensures c.in_ok-turn.ensures.moved.0 in
    step_acts core c.advance.new.self
    (plum_after core its)
    c.args.entries.now.items c.settle_all.new.entries.items c.args.pending.now c.note_and_draft.new.pending
    (g.R.Record.noted c.args.notes.now)
    (g.R.Record.noted c.note_and_draft.new.notes)
    told c.keep.new.self stimulus its c.new-out.result c.prepare.new.out
    c.in_ok-turn.ensures.stepped c.as_ref-lent.ensures c.new-out.ensures.sends c.new-out.ensures.deliveries advanced c.requires.settled
    (c.settle_all.ensures ∙ ap (map settled) c.in_ok-note_and_draft.ensures.drafted) c.in_ok-note_and_draft.ensures.delivered
    c.in_ok-note_and_draft.ensures.noted tells

pub returns-clause-settled : goal.returns-clause-settled
returns-clause-settled g c =
    subst AreSettled (sym (c.settle_all.ensures ∙ ap (map settled) c.in_ok-note_and_draft.ensures.drafted))
    (settled_more c.args.entries.now.items c.prepare.new.out.sends c.requires.settled.1)

pub returns-then-is_err-clause-err : goal.returns-then-is_err-clause-err
returns-then-is_err-clause-err g c =
    let core : c.advance.new.self ≡ c.args.core.now = at_err _ c.advance.result (sym c.is_err.ensures.value ∙ c.if-is_err.true) c.advance.ensures.err in
    let len : c.len-len.result ≡ length c.args.entries.now.items = search rules in
    let entries : c.undraft_all.new.entries.items ≡ c.args.entries.now.items =
    c.undraft_all.ensures
    ∙ undrafted_back c.args.entries.now.items c.note_and_draft.new.entries.items c.len-len.result
    c.note_and_draft.ensures.kept c.requires.settled len in
    let pending : c.truncate.new.self ≡ c.args.pending.now =
    c.truncate.ensures
    ∙ cut_back c.args.pending.now c.prepare.new.out.deliveries c.note_and_draft.new.pending
    c.len-given.result c.in_ok-note_and_draft.ensures.delivered c.len-given.ensures in
    (core, entries, pending, c.take_back.ensures _ _ c.in_ok-note_and_draft.ensures.noted, refl)
