use Rattle.std.proofs.Common.{◌≡◌, map, take}
use Rattle.plumtree_c.specs.Plain.{name_of}
use Rattle.plumtree_c.proofs.lifetime.read_names.Given as goal

-- the names so far are read
abbrev pub invariant-loop-name : goal.invariant-loop-name
invariant-loop-name l = l.read ≡ map name_of (take l.name-index l.names)
