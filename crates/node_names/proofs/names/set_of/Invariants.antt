use Rattle.std.proofs.Common.{◌≡◌, take}
use Rattle.node_names.proofs.names.set_of.Given as goal

-- the names so far are in the set
abbrev pub invariant-loop-name : goal.invariant-loop-name
invariant-loop-name g l = l.set.keys ≡ take l.name-index l.names
