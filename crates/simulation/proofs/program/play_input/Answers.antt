-- A text that is not too long is the whole input.
use Rattle.std.proofs.Common.{ℕ, List}
use Rattle.std.specs.Prelude.{Option}
use Rattle.node_names.specs.Limits.{Limits as Sizes}
use Rattle.simulation.specs.Form.{IsWritten}
use Rattle.scenario.specs.Scenario.{IsScenario}
use Rattle.simulation.specs.declared.play.TheConstants.{MAX_ARRIVALS}
use Rattle.scenario.specs.declared.read.TheConstants.{MAX_SCENARIO_BYTES}
use Rattle.scenario.specs.declared.scenario.TheConstants.{MAX_EVENTS}
use Rattle.scenario.specs.declared.action.Action.{Action}
use Rattle.scenario.proofs.Inputs.{all_bytes}
use Rattle.simulation.proofs.program.play_input.Goals as goal

pub returns-in-Ok-clause-played : goal.returns-in-Ok-clause-played
returns-in-Ok-clause-played g c ended =
    let Played : List ℕ → Type 0 =
    λ text. (seed : Option ℕ)
    × (sizes : Sizes)
    × (actions : List Action)
    × IsScenario MAX_SCENARIO_BYTES MAX_EVENTS text seed sizes actions
    × IsWritten MAX_ARRIVALS c.args.form seed sizes actions (g.W.Write.contents c.args.out.now) (g.W.Write.contents c.play.new.out) in
    let played : Played c.in-Ok.text.items = rw c.as_slice.ensures.value at (c.play.ensures.played ended) in
    all_bytes _ c.in-Ok.text.items MAX_SCENARIO_BYTES Played c.in-Ok.ensures.text played.3.short played
