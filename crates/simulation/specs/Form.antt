-- What is written for a run, in the form that was asked for.
use Rattle.std.specs.Prelude.{ℕ, List, Option}
use Rattle.frames.specs.Content.{frame_content}
use Rattle.node_core.specs.Plum.{plum_state}
use Rattle.node_core.specs.Steps.{PlumStarts, PlumSteps}
use Rattle.node_names.specs.Limits.{Limits}
use Rattle.simulation.specs.Drawn.{Draws}
use Rattle.simulation.specs.Play.{Prints}
use Rattle.simulation.specs.Traced.{Traces}
use Rattle.simulation.specs.declared.form.Form.{Form}
use Rattle.simulation.specs.declared.form.Form.TheVariants.{Lines, Graph, Trace}
use Rattle.scenario.specs.declared.action.Action.{Action}

-- The actions were played in a group, and the output gains the lines that are printed for that group, or its drawing,
-- or the trace of the run.
abbrev pub IsWritten : ℕ → Form → Option ℕ → Limits → List Action → Option (List ℕ) → Option (List ℕ) → Type 0
IsWritten most Lines seed limits actions before after = Prints plum_state frame_content PlumStarts PlumSteps most seed limits actions before after
IsWritten most (Graph only) seed limits actions before after = Draws most only seed limits actions before after
IsWritten most Trace seed limits actions before after = Traces most seed limits actions before after
