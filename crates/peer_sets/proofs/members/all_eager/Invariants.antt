use Rattle.std.proofs.Common.{◌≡◌, take}
use Rattle.peer_sets.specs.Members.{all_eager}
use Rattle.peer_sets.proofs.members.all_eager.Given as goal

abbrev pub invariant-loop-peer : goal.invariant-loop-peer
invariant-loop-peer g l = l.members.items ≡ all_eager (take l.peer-index l.peers)
