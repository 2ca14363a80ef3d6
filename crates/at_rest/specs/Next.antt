-- One event of a settling, and what may prevent it.
use Rattle.std.specs.Prelude.{◌≡◌, ◌⊎◌, List, Option, Some}
use Rattle.node_names.specs.NodeName.{Name}
use Rattle.node_names.specs.Limits.{Limits}
use Rattle.node_names.specs.declared.ids.Origin.{Origin}
use Rattle.protocol.specs.CoreState.{CoreState}
use Rattle.protocol.specs.Delivery.{Delivery}
use Rattle.protocol.specs.Stimulus.{Stimulus}
use Rattle.world.specs.Event.{Event}
use Rattle.world.specs.Group.{Group, Logged}
use Rattle.world.specs.Refusals.{IsSpentBy, packet_at}
use Rattle.world.specs.Run.{Applied}
use Rattle.world.specs.declared.event.EventOf.TheVariants.{Start, Broadcast, Arrive, Lose, Again, Fire, Flush, Down, Shuffle, Join, Stop}
use Rattle.world.specs.declared.packet.Packet.{Packet}
use Rattle.at_rest.specs.Settling.{IsNext}
use Rattle.at_rest.specs.declared.error.SettleError.{SettleError}
use Rattle.at_rest.specs.declared.error.SettleError.TheVariants.{NotCalm, SeqSpent, OutOfMemory}

-- The event steps the core of this name.
abbrev pub StepsNode : {C N : Type 0} → Group C N → Event → Name → Type 0
StepsNode {C} {N} group (Arrive place dice) name = (packet : Packet N) × (packet_at group place ≡ Some packet) × (packet.to ≡ name)
StepsNode group (Flush other) name = other ≡ name
StepsNode group (Fire other id) name = other ≡ name
StepsNode group (Start other incarnation peers contact) name = ⊥
StepsNode group (Broadcast other payload) name = ⊥
StepsNode group (Lose place) name = ⊥
StepsNode group (Again number) name = ⊥
StepsNode group (Down other peer dice) name = ⊥
StepsNode group (Shuffle other dice) name = ⊥
StepsNode group (Join other contact) name = ⊥
StepsNode group (Stop other) name = ⊥

module _
    {C N : Type 0}
    (state : C → CoreState)
    (starts : Origin → Limits → List Name → Option Name → List (Name × N) → C → Type 0)
    (steps : C → Stimulus N → List (Name × N) → List Delivery → C → Type 0)
  where
    -- The next event took the group from the old state to the new one.
    abbrev pub TakesNext : Logged C N → Logged C N → Type 0
    TakesNext old new = (event : Event) × IsNext state old.group event × ((given : List Delivery) × Applied state starts steps event given old new)

    module _ (is_spent : C → Stimulus N → Type 0) where
      -- The node whose core the next event would step is out of numbers for it.
      abbrev pub IsNextSpent : Group C N → Type 0
      IsNextSpent group = (event : Event) × IsNext state group event × IsSpentBy is_spent group event

      -- Why settling stopped: if the numbers are used up the group is unchanged, and if an allocation failed it is
      -- unchanged or the next event was played.
      abbrev pub Stops : SettleError → Logged C N → Logged C N → Type 0
      Stops NotCalm old new = ⊥
      Stops SeqSpent old new = (new ≡ old) × IsNextSpent old.group
      Stops OutOfMemory old new = (new ≡ old) ⊎ TakesNext old new
