-- The plan of a start says what the core's start gave.
use Rattle.std.proofs.Common.{◌≡◌, rules}
use Rattle.std.specs.Prelude.{None, IsTrue}
use Rattle.protocol.specs.Peers.{are_peers}
use Rattle.world.specs.Group.{node_of}
use Rattle.world.specs.Refusals.{stale}
use Rattle.world.proofs.PlanLemmas.{tells_start}
use Rattle.world.proofs.world.World.plan_start.Goals as goal

pub returns-clause-plan : goal.returns-clause-plan
returns-clause-plan g c =
    let fresh : stale (node_of c.args.name.now c.args.self.now.group.nodes) c.args.incarnation.now ≡ None = c.in_ok-is_fresh.ensures.ok in
    let fit : IsTrue (are_peers c.args.self.now.limits c.args.name.now c.args.peers.now c.args.contact.now) = search rules in
    let started : g.C.Core.starts (record { name = c.args.name.now; incarnation = c.args.incarnation.now })
    c.args.self.now.limits c.args.peers.now c.args.contact.now c.in_ok-start.start.sends.items c.in_ok-start.start.core =
    search rules in
    record {
      tells =
          rw (c.in_ok-quiet_entry.ensures, c.in_ok-node.ensures)
          (tells_start g.C.Core.state g.C.Core.starts g.C.Core.steps c.args.self.now.limits c.args.event.now
          c.args.self.now.group c.args.name.now c.args.incarnation.now c.args.peers.now c.args.contact.now
          c.in_ok-start.start.sends.items c.in_ok-packets.packets.items c.in_ok-start.start.core c.requires fresh fit started c.in_ok-packets.ensures);
      leaving = search rules;
      ready = search rules;
    }
