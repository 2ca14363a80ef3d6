use Rattle.std.proofs.Common.{◌≡◌, ◌∙◌, List, None, OnOk, ap, subst}
use Rattle.node_names.specs.NodeName.{Name}
use Rattle.node_core.specs.Plum.{plum_state}
use Rattle.wire_node.specs.Acting.{Acts, Machine, machine}
use Rattle.node_core.specs.News.{Telling, all_news}
use Rattle.wire_node.proofs.Stepping.{err_then, same_machine, settled_machine}
use Rattle.wire_node.proofs.step.make_step.Goals as goal

-- the news that are worked out, of this active view
settled_by : (old new : Telling) (names active : List Name) →
    new ≡ record { tells = old.tells; news = all_news old names; last = None } →
    names ≡ active →
    new ≡ record { tells = old.tells; news = all_news old active; last = None }
settled_by old new names active is same = is ∙ ap (λ (l : List Name). record { tells = old.tells; news = all_news old l; last = None }) same

pub returns-clause-acts : goal.returns-clause-acts
returns-clause-acts g c =
    let core = c.args.core.now in
    let told = c.args.telling.now in
    let next = c.make_next.new in
    let after = machine next.core next.entries.items next.pending (g.R.Record.noted next.notes) next.telling in
    subst (λ (m : Machine). OnOk c.make_next.result (Acts m c.args.stimulus.now after))
    (settled_machine core c.args.entries.now.items c.args.pending.now (g.R.Record.noted c.args.notes.now) told c.settle.new.self
    (settled_by told c.settle.new.self c.active.result.now.keys (plum_state core).active c.in_ok-settle.ensures.ok c.active.ensures))
    c.make_next.ensures.acts

pub returns-clause-err : goal.returns-clause-err
returns-clause-err g c =
    let core = c.args.core.now in
    let told = c.args.telling.now in
    let next = c.make_next.new in
    let noted = g.R.Record.noted in
    err_then _ _ c.make_next.result c.make_next.ensures.err
    (λ same. same_machine core next.core c.args.entries.now.items next.entries.items c.args.pending.now next.pending
    (noted c.args.notes.now) (noted next.notes) c.settle.new.self next.telling same
    ∙ settled_machine core c.args.entries.now.items c.args.pending.now (noted c.args.notes.now) told c.settle.new.self
    (settled_by told c.settle.new.self c.active.result.now.keys (plum_state core).active c.in_ok-settle.ensures.ok c.active.ensures))
