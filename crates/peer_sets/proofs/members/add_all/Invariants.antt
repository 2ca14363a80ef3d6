use Rattle.std.proofs.Common.{◌≡◌, take}
use Rattle.peer_sets.specs.Members.{with_members}
use Rattle.peer_sets.proofs.members.add_all.Given as goal

abbrev pub invariant-loop-name : goal.invariant-loop-name
invariant-loop-name g l = l.members.items ≡ with_members (take l.name-index l.names) l.fn.members.items
