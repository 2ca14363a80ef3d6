-- The packet is the one at the place of the flight, and its receiver is the node that was found.
use Rattle.std.proofs.Common.{◌≡◌, rules, sym, ◌∙◌}
use Rattle.std.specs.Prelude.{Some, slice_get}
use Rattle.world.specs.Refusals.{IsRefusal}
use Rattle.world.proofs.PlanLemmas.{arrival_refused, tells_arrival, found_within}
use Rattle.world.proofs.world.World.plan_arrive.Goals as goal

pub returns-in_err-plan-clause-refused : goal.returns-in_err-plan-clause-refused
returns-in_err-plan-clause-refused g c =
    let in_flight : slice_get c.args.self.now.group.flight c.args.place ≡ Some c.in-Some.number = rw c.flight.ensures at c.in-Some.ensures.number in
    let sent : slice_get c.args.self.now.group.sent c.in-Some.number ≡ Some c.in-Some.packet.now = rw c.sent.ensures at c.in-Some.ensures.packet in
    let refused : IsRefusal g.C.Core.is_spent c.args.self.now.limits c.args.self.now.group c.args.event.now c.in_err-plan.field-0.0 =
    arrival_refused g.C.Core.is_spent c.args.self.now.limits c.args.self.now.group c.args.event.now c.args.place c.args.dice.now
    c.in-Some.number c.in-Some.packet.now c.in_ok-found.found.node.now c.in_ok-found.found.core.now c.in_err-plan.field-0.0
    c.requires in_flight sent c.in_ok-found.ensures.found.known c.in_ok-found.ensures.found.running c.in_err-plan.ensures.refused in
    search (rules, refused)

pub returns-clause-plan : goal.returns-clause-plan
returns-clause-plan g c =
    let in_flight : slice_get c.args.self.now.group.flight c.args.place ≡ Some c.in-Some.number = rw c.flight.ensures at c.in-Some.ensures.number in
    let sent : slice_get c.args.self.now.group.sent c.in-Some.number ≡ Some c.in-Some.packet.now = rw c.sent.ensures at c.in-Some.ensures.packet in
    record {
      tells =
          tells_arrival g.C.Core.state g.C.Core.starts g.C.Core.steps c.args.self.now.limits c.args.event.now c.args.self.now.group
          c.in_ok-plan.plan.entry _ c.args.place c.args.dice.now c.in-Some.number c.in-Some.packet.now c.requires
          c.in_ok-plan.ensures.event c.in_ok-plan.ensures.packet c.in_ok-plan.ensures.first_sent in_flight sent c.in_ok-plan.ensures.acts;
      leaving =
          λ x e.
          let left : Some c.args.place ≡ Some x = sym c.in_ok-plan.ensures.leaving ∙ e in
          let here : c.args.place ≡ x = cc in
          rw (← here) (found_within c.args.self.now.group.flight c.args.place c.in-Some.number in_flight);
      ready = c.in_ok-plan.ensures.ready;
    }
