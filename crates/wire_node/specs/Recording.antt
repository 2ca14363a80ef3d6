-- What a node of bytes notes of its steps.
use Rattle.std.specs.Prelude.{◌≡◌, ◌++◌, ℕ, List, [], ◌∷◌, Option, None, Some}
use Rattle.protocol.specs.Output.{Output}
use Rattle.protocol.specs.Trace.{Step}
use Rattle.frames.specs.Frame.{Frame}
use Rattle.node_core.specs.Plum.{Plum}
use Rattle.node_core.specs.Steps.{PlumSteps}

-- What is kept: what the start sent and delivered, and the steps from this place on.
pub record Noted : Type 0 where
  pub opening : Output Frame
  pub first : ℕ
  pub steps : List (Step Frame)

-- the same with more steps, if anything is kept at all
abbrev pub with_steps : Option Noted → List (Step Frame) → Option Noted
with_steps None steps = None
with_steps (Some noted) steps = Some (record { opening = noted.opening; first = noted.first; steps = noted.steps ++ steps })

-- the same with one more step
abbrev pub with_step : Option Noted → Step Frame → Option Noted
with_step noted step = with_steps noted (step ∷ [])

-- the same with this opening
abbrev pub opened : Option Noted → Output Frame → Option Noted
opened None opening = None
opened (Some noted) opening = Some (record { opening = opening; first = noted.first; steps = noted.steps })

-- The steps lead from the one core to the other, one after the other.
abbrev pub Leads : Plum → List (Step Frame) → Plum → Type 0
Leads old [] new = old ≡ new
Leads old (step ∷ steps) new = (mid : Plum) × PlumSteps old step.stimulus step.out.sends step.out.deliveries mid × Leads mid steps new
