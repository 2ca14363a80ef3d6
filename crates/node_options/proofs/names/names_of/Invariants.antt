use Rattle.std.proofs.Common.{◌≡◌, Some, map, take}
use Rattle.node_options.specs.Told.{text_of}
use Rattle.node_options.specs.Given.{all_said}
use Rattle.node_options.proofs.names.names_of.Given as goal

-- the names so far
abbrev pub invariant-loop-given : goal.invariant-loop-given
invariant-loop-given l = map text_of (all_said (take l.given-index l.values)) ≡ map Some l.names.items
