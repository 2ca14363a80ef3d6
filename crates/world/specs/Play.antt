-- A list of events, played one after the other.
use Rattle.std.specs.Prelude.{◌≡◌, ℕ, suc, List, [], ◌∷◌, ◌++◌, Option, Some, map, slice_get}
use Rattle.node_names.specs.NodeName.{Name}
use Rattle.node_names.specs.Limits.{Limits}
use Rattle.node_names.specs.declared.ids.Origin.{Origin}
use Rattle.protocol.specs.CoreState.{CoreState}
use Rattle.protocol.specs.Delivery.{Delivery}
use Rattle.protocol.specs.Stimulus.{Stimulus}
use Rattle.world.specs.Event.{Event}
use Rattle.world.specs.Group.{Logged}
use Rattle.world.specs.Refusals.{IsRefusal}
use Rattle.world.specs.Run.{Applied}
use Rattle.world.specs.declared.error.WorldError.{WorldError}

-- A delivery, and the place of the event that gave it.
pub record Given : Type 0 where
  pub at : ℕ
  pub delivery : Delivery

-- Where a run stopped, why, and what it delivered until then.
pub record Fault : Type 0 where
  pub at : ℕ
  pub why : WorldError
  pub given : List Given

-- the deliveries of the event at this place
abbrev pub given_at : ℕ → List Delivery → List Given
given_at at given = map (λ delivery. record { at = at; delivery = delivery }) given

-- The events, of which the first has this place, are applied one after the other, and give these deliveries.
abbrev pub Plays :
    {C N : Type 0}
    (state : C → CoreState)
    (starts : Origin → Limits → List Name → Option Name → List (Name × N) → C → Type 0)
    (steps : C → Stimulus N → List (Name × N) → List Delivery → C → Type 0) →
    ℕ → List Event → List Given → Logged C N → Logged C N → Type 0
Plays state starts steps at [] given old new = (given ≡ []) × (new ≡ old)
Plays {C} {N} state starts steps at (event ∷ events) given old new =
    (between : Logged C N) × (first : List Delivery) × (later : List Given)
    × Applied state starts steps event first old between × (given ≡ given_at at first ++ later) × Plays state starts steps (suc at) events later between new

-- The event at this place is applied, and its deliveries are appended to the earlier ones.
pub record PlaysOn
    {C N : Type 0}
    (state : C → CoreState)
    (starts : Origin → Limits → List Name → Option Name → List (Name × N) → C → Type 0)
    (steps : C → Stimulus N → List (Name × N) → List Delivery → C → Type 0)
    (at : ℕ)
    (event : Event)
    (given : List Given)
    (old : Logged C N)
    (more : List Given)
    (new : Logged C N)
    : Type 0 where
  pub delivered : List Delivery
  pub applied : Applied state starts steps event delivered old new
  pub noted : more ≡ given ++ given_at at delivered

-- The group refuses the event at the fault's place for the fault's reason.
pub record RefusesAt {C N : Type 0} (is_spent : C → Stimulus N → Type 0) (events : List Event) (fault : Fault) (group : Logged C N) : Type 0 where
  pub event : Event
  pub listed : slice_get events fault.at ≡ Some event
  pub refused : IsRefusal is_spent group.limits group.group event fault.why
