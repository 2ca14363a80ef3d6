use Rattle.std.proofs.Common.{◌∙◌, ap, length, List}
use Rattle.std.specs.Iterator.Adapters.{option_iter_steps}
use Rattle.std.specs.Option.{option_to_list}
use Rattle.std.proofs.lemmas.Iterator.{YieldsList-from_slice}
use Rattle.std.proofs.lemmas.Iterator.Adapters.{YieldsList-from_flatten}
use Rattle.std.proofs.lemmas.Iterator.Consumers.{count_from_yields_List}
use Rattle.node_core.proofs.Slots.{slot_yields, slots_give}
use Rattle.plumtree_c.proofs.room.number_of.Goals as goal

pub returns : goal.returns
returns g c =
    count_from_yields_List c.flatten.result c.count.result c.count.ensures.ran (YieldsList-from_flatten _ option_iter_steps (λ y. y.now) option_to_list
    (λ x j k. slot_yields x.now k.0 k.1) (YieldsList-from_slice c.args.entries.now cc) c.flatten.ensures.front c.flatten.ensures.back c.flatten.ensures.done)
    ∙ ap (λ (xs : List g.row.T.Denot). length xs) (slots_give c.args.entries.now)
