-- A running node and a short payload meet no refusal.
use Rattle.std.proofs.Common.{◌≤◌, length, arith}
use Rattle.protocol.specs.declared.TheConstants.{MAX_PAYLOAD}
use Rattle.world.proofs.PlanLemmas.{broadcast_accepted}
use Rattle.world.proofs.world.World.plan_broadcast.Goals as goal

pub returns-clause-accepted : goal.returns-clause-accepted
returns-clause-accepted g c =
    let short : length c.args.payload.now ≤ MAX_PAYLOAD = omega arith in
    broadcast_accepted c.args.self.now.limits c.args.self.now.group c.args.name.now c.args.payload.now c.args.event.now c.in_ok-found.found.node.now
    c.in_ok-found.found.core.now c.requires c.in_ok-found.ensures.found.known c.in_ok-found.ensures.found.running short
