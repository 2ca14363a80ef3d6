-- What is carried, announced and asked for is added in turn.
use Rattle.std.proofs.Common.{ℕ, List, map, subst}
use Rattle.std.specs.Prelude.{Option}
use Rattle.node_names.specs.declared.ids.MsgId.{MsgId}
use Rattle.at_rest.specs.Unrest.{Adds, asked_ids}
use Rattle.at_rest.proofs.Adding.{adds-both}
use Rattle.at_rest.proofs.Forests.{on-ok-weaken}
use Rattle.at_rest.proofs.unrest.add_note.Goals as goal

pub returns : goal.returns
returns g c =
    let Announced : List (MsgId × ℕ) → Type 0 = λ entries. Adds c.add_carried.new.ids.keys (map (λ entry. entry.0) entries) c.add_announced.new.ids.keys in
    let Asked : Option MsgId → Type 0 = λ asked. Adds c.add_announced.new.ids.keys (asked_ids asked) c.add_asked.new.ids.keys in
    on-ok-weaken c.add_asked.result _ _
    (λ asked. adds-both c.args.ids.now.keys c.add_carried.new.ids.keys c.add_asked.new.ids.keys _ _ c.in_ok-add_carried.ensures
    (adds-both c.add_carried.new.ids.keys c.add_announced.new.ids.keys c.add_asked.new.ids.keys _ _
    (subst Announced c.announced.ensures c.in_ok-add_announced.ensures) (subst Asked c.asked.ensures asked)))
    c.add_asked.ensures
