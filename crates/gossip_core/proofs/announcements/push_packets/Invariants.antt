use Rattle.std.proofs.Common.{◌≡◌, ◌++◌, length}
use Rattle.gossip_core.specs.Announcements.{packets_to}
use Rattle.gossip_core.proofs.announcements.push_packets.Given as goal

abbrev pub invariant-loop-rest : goal.invariant-loop-rest
invariant-loop-rest g l = l.packets.items ++ packets_to (l.peer, l.rest) ≡ l.fn.packets.items ++ packets_to (l.peer, l.entries)

abbrev pub decreases-loop-rest : goal.decreases-loop-rest
decreases-loop-rest g l = length l.rest
