-- A text that is refused is no scenario.
use Rattle.std.proofs.Common.{◌≡◌, ◌≢◌, ◌∙◌, ℕ, List, Err, ap, subst, sym}
use Rattle.std.specs.Prelude.{Option}
use Rattle.std.proofs.lemmas.Result.{err_from_is_err_and}
use Rattle.node_names.specs.Limits.{Limits as Sizes}
use Rattle.scenario.specs.Scenario.{IsScenario}
use Rattle.simulation.specs.declared.error.SimulationError.TheVariants.{Refused}
use Rattle.scenario.specs.declared.read.TheConstants.{MAX_SCENARIO_BYTES}
use Rattle.scenario.specs.declared.scenario.TheConstants.{MAX_EVENTS}
use Rattle.scenario.specs.declared.action.Action.{Action}
use Rattle.scenario.specs.declared.error.ScenarioError.{ScenarioError}
use Rattle.scenario.specs.declared.error.ScenarioError.TheVariants.{OutOfMemory}
use Rattle.simulation.proofs.outcome.draw.Goals as goal

pub returns-in_err-scenario-clause-refused : goal.returns-in_err-scenario-clause-refused
returns-in_err-scenario-clause-refused g c fault is =
    let given = err_from_is_err_and c.from_residual.result c.from_residual.ensures.1 in
    let both : Err (Refused c.in_err-scenario.field-0.0) ≡ Err (Refused fault) = sym (given.1 ∙ ap Err given.2) ∙ is in
    let same : c.in_err-scenario.field-0.0 ≡ fault = cc both in
    let IsNone : ScenarioError → Type 0 =
    λ f. f ≢ OutOfMemory →
    (seed : Option ℕ) (sizes : Sizes) (actions : List Action) →
    IsScenario MAX_SCENARIO_BYTES MAX_EVENTS c.args.text.now seed sizes actions →
    ⊥ in
    subst IsNone same c.in_err-scenario.ensures.refused
