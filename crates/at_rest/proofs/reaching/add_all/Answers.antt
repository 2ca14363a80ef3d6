-- One name more.
use Rattle.std.proofs.Common.{◌∙◌, ap, sym, take}
use Rattle.std.proofs.lemmas.List.Sums.{fold_more}
use Rattle.indexmap.specs.IndexSet.{insert_all, insert_key}
use Rattle.node_names.specs.Same.{same_name}
use Rattle.at_rest.proofs.reaching.add_all.Goals as goal

pub loop-name-preserved : goal.loop-name-preserved
loop-name-preserved g c =
    c.in_ok-insert.ensures.keys
    ∙ ap (λ names. insert_key same_name names c.name-item.result) c.loop-name.invariant
    ∙ ap (insert_key same_name (insert_all same_name c.args.reached.now.keys (take c.loop-name.name-index c.args.level.now))) c.name-item.is
    ∙ sym (fold_more (insert_key same_name) c.args.reached.now.keys c.args.level.now c.loop-name.name-index c.name-item.result c.loop-name-test.true)
