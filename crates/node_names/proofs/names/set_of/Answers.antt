-- The next name is not among those before it, so it goes last.
use Rattle.std.proofs.Common.{◌∙◌}
use Rattle.node_names.proofs.NameSets.{inserts_last}
use Rattle.node_names.proofs.names.set_of.Goals as goal

pub loop-name-preserved : goal.loop-name-preserved
loop-name-preserved g c =
    c.in_ok-insert.ensures.keys
    ∙ inserts_last c.args.names.now c.loop-name.name-index c.requires c.loop-name-test.true
    c.name-item.result c.loop-name.set.keys c.name-item.is c.loop-name.invariant
