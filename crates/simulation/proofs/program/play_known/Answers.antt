-- What was read of the text is what is played, and a text that is refused was not read.
use Rattle.std.proofs.Common.{◌≢◌, ℕ, List}
use Rattle.std.specs.Prelude.{Option}
use Rattle.std.proofs.lemmas.Result.{IfOk-at_ok, IfErr-at_err}
use Rattle.node_names.specs.Limits.{Limits as Sizes}
use Rattle.scenario.specs.Scenario.{IsScenario}
use Rattle.scenario.specs.declared.read.TheConstants.{MAX_SCENARIO_BYTES}
use Rattle.scenario.specs.declared.scenario.TheConstants.{MAX_EVENTS}
use Rattle.scenario.specs.declared.scenario.Scenario.{Scenario}
use Rattle.scenario.specs.declared.action.Action.{Action}
use Rattle.scenario.specs.declared.error.ScenarioError.{ScenarioError}
use Rattle.scenario.specs.declared.error.ScenarioError.TheVariants.{OutOfMemory}
use Rattle.simulation.proofs.program.play_known.Goals as goal

pub returns-clause-played : goal.returns-clause-played
returns-clause-played g c ended =
    let (scenario, is, written) = c.play_read.ensures.played ended in
    let IsRead : Scenario → Type 0 =
    λ s. IsScenario MAX_SCENARIO_BYTES MAX_EVENTS c.args.text.now s.seed s.limits s.actions.items in
    (scenario.seed, scenario.limits, scenario.actions.items, IfOk-at_ok IsRead is c.read_scenario-read.ensures.ok, written)

pub returns-clause-refused : goal.returns-clause-refused
returns-clause-refused g c status =
    let (fault, is, has_memory) = c.play_read.ensures.refused status in
    let IsNone : ScenarioError → Type 0 =
    λ f. f ≢ OutOfMemory →
    (seed : Option ℕ) (sizes : Sizes) (actions : List Action) →
    IsScenario MAX_SCENARIO_BYTES MAX_EVENTS c.args.text.now seed sizes actions →
    ⊥ in
    IfErr-at_err IsNone is c.read_scenario-read.ensures.refused has_memory
