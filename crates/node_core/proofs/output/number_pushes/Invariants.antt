use Rattle.std.proofs.Common.{◌≡◌, ◌+◌, ◌++◌, length, map, take}
use Rattle.peer_sets.specs.Members.{eager_but}
use Rattle.gossip_core.specs.Table.{gossip_to}
use Rattle.node_core.specs.Steps.{numbered}
use Rattle.node_core.proofs.output.number_pushes.Given as goal

-- the packets to the members so far are numbered
abbrev pub invariant-loop-member : goal.invariant-loop-member
invariant-loop-member g l =
    let sends = map (gossip_to l.spread.id l.spread.round l.spread.payload.now) (eager_but l.spread.left_out (take l.member-index l.spread.members.now)) in
    (l.last ≡ l.framed + length sends) × (l.frames ≡ l.initial.frames ++ numbered l.me l.framed sends)
