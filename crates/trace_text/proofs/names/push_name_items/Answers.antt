-- A step appends one name.
use Rattle.std.proofs.Common.{refl}
use Rattle.trace_text.specs.Names.{name_item, name_items}
use Rattle.trace_text.proofs.Texts.{joined, lines-more}
use Rattle.trace_text.proofs.names.push_name_items.Goals as goal

pub loop-name-preserved : goal.loop-name-preserved
loop-name-preserved g c =
    joined _ _ _ _ _ _ c.in_ok-push_name_item.ensures c.loop-name.invariant (lines-more name_item name_items refl
    (λ x xs. refl) c.args.names.now c.loop-name.name-index c.name-item.result c.name-item.result c.loop-name-test.true c.name-item.is)
