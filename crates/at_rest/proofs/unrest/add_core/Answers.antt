-- What is queued and timed is added in turn.
use Rattle.std.proofs.Common.{ℕ, List, map, subst}
use Rattle.node_names.specs.NodeName.{Name}
use Rattle.node_names.specs.declared.ids.MsgId.{MsgId}
use Rattle.at_rest.specs.Unrest.{Adds}
use Rattle.at_rest.proofs.Adding.{adds-both}
use Rattle.at_rest.proofs.Forests.{on-ok-weaken}
use Rattle.at_rest.proofs.unrest.add_core.Goals as goal

pub returns : goal.returns
returns g c =
    let Queued : List (Name × MsgId × ℕ) → Type 0 = λ entries. Adds c.args.ids.now.keys (map (λ entry. entry.1) entries) c.add_queued.new.ids.keys in
    let Timed : List MsgId → Type 0 = λ timers. Adds c.add_queued.new.ids.keys timers c.add_timers.new.ids.keys in
    on-ok-weaken c.add_timers.result _ _
    (λ timed. adds-both c.args.ids.now.keys c.add_queued.new.ids.keys c.add_timers.new.ids.keys _ _
    (subst Queued c.queued.ensures c.in_ok-add_queued.ensures) (subst Timed c.timers.ensures timed))
    c.add_timers.ensures
