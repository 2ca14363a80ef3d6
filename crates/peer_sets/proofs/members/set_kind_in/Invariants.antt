use Rattle.std.proofs.Common.{◌≡◌, ◌++◌, take, drop}
use Rattle.peer_sets.specs.Members.{with_kind}
use Rattle.peer_sets.proofs.members.set_kind_in.Given as goal

abbrev pub invariant-loop-member : goal.invariant-loop-member
invariant-loop-member l = l.member-items ≡ with_kind l.name l.kind (take l.member-index l.fn.members) ++ drop l.member-index l.fn.members
