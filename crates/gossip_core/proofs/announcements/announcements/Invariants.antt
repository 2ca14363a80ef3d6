use Rattle.std.proofs.Common.{◌≡◌, take}
use Rattle.std.specs.List.{flat_map}
use Rattle.gossip_core.specs.Announcements.{packets_to}
use Rattle.gossip_core.proofs.announcements.announcements.Given as goal

abbrev pub invariant-loop-batch : goal.invariant-loop-batch
invariant-loop-batch g l = l.packets.items ≡ flat_map packets_to (take l.batch-index l.batch-items)
