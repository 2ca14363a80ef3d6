-- One slot more.
use Rattle.std.proofs.Common.{◌∙◌, ◌++◌, ◌∷◌, [], List, Vec, ap, sym}
use Rattle.node_names.specs.declared.ids.MsgId.{MsgId}
use Rattle.node_core.proofs.Slots.{somes_none, somes_some}
use Rattle.node_core.proofs.timers.armed_ids.Goals as goal
use Rattle.node_core.proofs.timers.armed_ids.Goals.{in-Some+in_ok-push, in_default}

pub loop-timer-preserved : goal.loop-timer-preserved
loop-timer-preserved g c =
    elim c.match-timer.branch [
      | in-Some+in_ok-push w ↦
          ap (λ (ids : Vec MsgId g.row.A.Denot). ids.items) w.ids-is
          ∙ w.in_ok-push.ensures.items
          ∙ ap (λ (ids : List MsgId). ids ++ w.in-Some.id ∷ []) c.loop-timer.invariant
          ∙ sym (somes_some c.args.timers.now c.loop-timer.timer-index c.timer-item.result w.in-Some.id c.loop-timer-test.true c.timer-item.is w.in-Some.is)
      | in_default w ↦
          ap (λ (ids : Vec MsgId g.row.A.Denot). ids.items) w.ids-is ∙ c.loop-timer.invariant
          ∙ sym (somes_none c.args.timers.now c.loop-timer.timer-index c.timer-item.result c.loop-timer-test.true c.timer-item.is w.in_default.is)
    ]
