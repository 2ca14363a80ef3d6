-- A step appends one id, or nothing.
use Rattle.std.proofs.Common.{◌∙◌, ◌++◌, List, String, ap, refl, string_bytes, sym}
use Rattle.trace_text.specs.Names.{id_item, id_items}
use Rattle.node_core.proofs.Slots.{somes_none}
use Rattle.trace_text.proofs.Texts.{joined, slots-more}
use Rattle.trace_text.proofs.parts.push_timer_items.Goals as goal
use Rattle.trace_text.proofs.parts.push_timer_items.Goals.{in-Some+in_ok-push_id_item, in_default}

pub loop-timer-preserved : goal.loop-timer-preserved
loop-timer-preserved g c =
    elim c.match-timer.branch [
      | in-Some+in_ok-push_id_item w ↦
          ap (λ (text : String g.row.A.Denot). string_bytes text) w.text-is
          ∙ joined _ _ _ _ _ _ w.in_ok-push_id_item.ensures c.loop-timer.invariant (slots-more id_item id_items refl
          (λ x xs. refl) c.args.timers.now c.loop-timer.timer-index c.timer-item.result w.in-Some.id c.loop-timer-test.true c.timer-item.is w.in-Some.is)
      | in_default w ↦
          ap (λ (text : String g.row.A.Denot). string_bytes text) w.text-is ∙ c.loop-timer.invariant
          ∙ sym (ap (λ timers. string_bytes c.args.text.now ++ id_items timers)
          (somes_none c.args.timers.now c.loop-timer.timer-index c.timer-item.result c.loop-timer-test.true c.timer-item.is w.in_default.is))
    ]
