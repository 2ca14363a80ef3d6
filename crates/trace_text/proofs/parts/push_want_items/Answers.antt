-- A step appends one announcement, or nothing.
use Rattle.std.proofs.Common.{◌∙◌, ◌++◌, List, String, ap, refl, string_bytes, sym}
use Rattle.trace_text.specs.Parts.{want_item, want_items}
use Rattle.node_core.proofs.Slots.{somes_none}
use Rattle.trace_text.proofs.Texts.{joined, slots-more}
use Rattle.trace_text.proofs.parts.push_want_items.Goals as goal
use Rattle.trace_text.proofs.parts.push_want_items.Goals.{in-Some+in_ok-push_want_item, in_default}

pub loop-want-preserved : goal.loop-want-preserved
loop-want-preserved g c =
    elim c.match-want.branch [
      | in-Some+in_ok-push_want_item w ↦
          ap (λ (text : String g.row.A.Denot). string_bytes text) w.text-is
          ∙ joined _ _ _ _ _ _ w.in_ok-push_want_item.ensures c.loop-want.invariant (slots-more want_item want_items refl
          (λ x xs. refl) c.args.wants.now c.loop-want.want-index c.want-item.result w.in-Some.entry c.loop-want-test.true c.want-item.is w.in-Some.is)
      | in_default w ↦
          ap (λ (text : String g.row.A.Denot). string_bytes text) w.text-is ∙ c.loop-want.invariant
          ∙ sym (ap (λ wants. string_bytes c.args.text.now ++ want_items wants)
          (somes_none c.args.wants.now c.loop-want.want-index c.want-item.result c.loop-want-test.true c.want-item.is w.in_default.is))
    ]
