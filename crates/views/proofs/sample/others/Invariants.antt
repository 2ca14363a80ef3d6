use Rattle.std.proofs.Common.{◌≡◌, take}
use Rattle.views.specs.Names.{others}
use Rattle.views.proofs.sample.others.Given as goal

abbrev pub invariant-loop-name : goal.invariant-loop-name
invariant-loop-name g l = l.left.items ≡ others l.excepted (take l.name-index l.names)
