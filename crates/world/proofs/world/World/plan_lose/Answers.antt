-- The packet leaves the flight, and nothing else happens.
use Rattle.std.proofs.Common.{◌≡◌, ◌∙◌, arith, rules, sym}
use Rattle.std.proofs.lemmas.Grind.{common_steps}
use Rattle.std.specs.Prelude.{Some, slice_get}
use Rattle.world.proofs.PlanLemmas.{found_within}
use Rattle.world.proofs.world.World.plan_lose.Goals as goal

pub returns-clause-plan : goal.returns-clause-plan
returns-clause-plan g c =
    let in_flight : slice_get c.args.self.now.group.flight c.args.place ≡ Some c.in-Some.number =
    rw c.flight.ensures at (sym c.number_at.ensures ∙ c.in-Some.is) in
    record {
      tells = first_of (search rules, grind (arith, common_steps));
      leaving =
          λ x e.
          let left : Some c.args.place ≡ Some x = e in
          let here : c.args.place ≡ x = cc in
          rw (← here) (found_within c.args.self.now.group.flight c.args.place c.in-Some.number in_flight);
      ready = search rules;
    }
