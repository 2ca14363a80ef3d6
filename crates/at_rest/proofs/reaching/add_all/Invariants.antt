use Rattle.std.proofs.Common.{◌≡◌, take}
use Rattle.indexmap.specs.IndexSet.{insert_all}
use Rattle.node_names.specs.Same.{same_name}
use Rattle.at_rest.proofs.reaching.add_all.Given as goal

-- the names of the level so far are added
abbrev pub invariant-loop-name : goal.invariant-loop-name
invariant-loop-name g l = l.reached.keys ≡ insert_all same_name l.initial.reached.keys (take l.name-index l.level)
