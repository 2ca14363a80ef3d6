use Rattle.std.proofs.Common.{◌≡◌, map, take}
use Rattle.peer_sets.specs.Members.{eager_but}
use Rattle.gossip_core.specs.Table.{gossip_to}
use Rattle.gossip_core.proofs.effects.pushes.Given as goal

abbrev pub invariant-loop-member : goal.invariant-loop-member
invariant-loop-member g l =
    l.sends.items ≡ map (gossip_to l.spread.id l.spread.round l.spread.payload.now) (eager_but l.spread.left_out (take l.member-index l.spread.members.now))
