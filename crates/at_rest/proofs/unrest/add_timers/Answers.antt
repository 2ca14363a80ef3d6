-- One id more, or none.
use Rattle.std.proofs.Common.{◌∙◌, ◌∷◌, ◌++◌, [], List, ap, sym, take}
use Rattle.node_names.specs.Same.{has_id}
use Rattle.node_names.specs.Slots.{somes}
use Rattle.node_names.specs.declared.ids.MsgId.{MsgId}
use Rattle.at_rest.proofs.Adding.{adds-both, adds-none}
use Rattle.node_core.proofs.Slots.{somes_none, somes_some}
use Rattle.at_rest.proofs.unrest.add_timers.Goals as goal
use Rattle.at_rest.proofs.unrest.add_timers.Goals.{in-Some+in_ok-add, in_default}

pub loop-timer-init : goal.loop-timer-init
loop-timer-init g c = adds-none c.args.ids.now.keys

pub loop-timer-preserved : goal.loop-timer-preserved
loop-timer-preserved g c q =
    let slots = c.args.timers.now in
    let i = c.loop-timer.timer-index in
    elim c.match-timer.branch [
      | in-Some+in_ok-add w ↦
          ap (λ ids. has_id ids.keys q) w.ids-is
          ∙ adds-both c.args.ids.now.keys c.loop-timer.ids.keys w.add.new.ids.keys
          (somes (take i slots)) (w.in-Some.id ∷ []) c.loop-timer.invariant w.in_ok-add.ensures q
          ∙ ap (λ (more : List MsgId). has_id (c.args.ids.now.keys ++ more) q)
          (sym (somes_some slots i c.timer-item.result w.in-Some.id c.loop-timer-test.true c.timer-item.is w.in-Some.is))
      | in_default w ↦
          ap (λ ids. has_id ids.keys q) w.ids-is ∙ c.loop-timer.invariant q
          ∙ ap (λ (more : List MsgId). has_id (c.args.ids.now.keys ++ more) q)
          (sym (somes_none slots i c.timer-item.result c.loop-timer-test.true c.timer-item.is w.in_default.is))
    ]
