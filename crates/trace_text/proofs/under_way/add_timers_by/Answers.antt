-- A step adds one timer, or nothing.
use Rattle.std.proofs.Common.{◌∙◌, ◌++◌, ap, refl, sym}
use Rattle.trace_text.specs.Collected.{text_at}
use Rattle.trace_text.specs.Ends.{timer_line, timers_by}
use Rattle.node_core.proofs.Slots.{somes_none}
use Rattle.trace_text.proofs.Texts.{joined, slots-more}
use Rattle.trace_text.proofs.under_way.add_timers_by.Goals as goal
use Rattle.trace_text.proofs.under_way.add_timers_by.Goals.{in-Some+in_ok-add_timer, in_default}

pub loop-timer-preserved : goal.loop-timer-preserved
loop-timer-preserved g c id =
    elim c.match-timer.branch [
      | in-Some+in_ok-add_timer w ↦
          ap (λ texts. text_at id texts.entries) w.texts-is
          ∙ joined _ _ _ _ _ _ (w.in_ok-add_timer.ensures id) (c.loop-timer.invariant id) (slots-more (timer_line id c.args.node.now)
          (timers_by id c.args.node.now)
          refl
          (λ x xs. refl)
          c.args.timers.now c.loop-timer.timer-index c.timer-item.result w.in-Some.timed c.loop-timer-test.true c.timer-item.is w.in-Some.is)
      | in_default w ↦
          ap (λ texts. text_at id texts.entries) w.texts-is ∙ c.loop-timer.invariant id
          ∙ sym (ap (λ timers. text_at id c.args.texts.now.entries ++ timers_by id c.args.node.now timers)
          (somes_none c.args.timers.now c.loop-timer.timer-index c.timer-item.result c.loop-timer-test.true c.timer-item.is w.in_default.is))
    ]
