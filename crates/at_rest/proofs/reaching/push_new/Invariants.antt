use Rattle.std.proofs.Common.{◌≡◌, ◌++◌, take}
use Rattle.std.specs.Prelude.{filter}
use Rattle.at_rest.specs.Linking.{is_new}
use Rattle.at_rest.proofs.reaching.push_new.Given as goal

-- those of the names so far that are new
abbrev pub invariant-loop-name : goal.invariant-loop-name
invariant-loop-name g l = l.next.items ≡ l.initial.next.items ++ filter (is_new g.C.Core.state l.world.group.nodes l.reached.keys) (take l.name-index l.names)
