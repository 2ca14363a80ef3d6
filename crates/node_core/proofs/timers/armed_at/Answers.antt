use Rattle.std.proofs.Common.{◌∙◌, ap, slice_get, List}
use Rattle.std.specs.Iterator.Adapters.{option_iter_steps}
use Rattle.std.specs.Option.{option_to_list}
use Rattle.std.proofs.lemmas.Iterator.{YieldsList-from_slice}
use Rattle.std.proofs.lemmas.Iterator.Adapters.{YieldsList-from_flatten}
use Rattle.std.proofs.lemmas.Iterator.Consumers.{nth_from_yields_List}
use Rattle.node_names.specs.declared.ids.MsgId.{MsgId}
use Rattle.node_core.proofs.Slots.{slot_yields, slots_give}
use Rattle.node_core.proofs.timers.armed_at.Goals as goal

pub returns : goal.returns
returns c =
    c.copied.ensures
    ∙ nth_from_yields_List c.nth.result _ c.args.place c.nth.ensures.ran (YieldsList-from_flatten _ option_iter_steps (λ y. y.now) option_to_list
    (λ x j k. slot_yields x.now k.0 k.1) (YieldsList-from_slice c.args.timers.now cc) c.flatten.ensures.front c.flatten.ensures.back c.flatten.ensures.done)
    ∙ ap (λ (ids : List MsgId). slice_get ids c.args.place) (slots_give c.args.timers.now)
