-- What a step delivers at most, whoever sent the packet that made it.
use Rattle.std.specs.Prelude.{◌≡◌, ◌≤◌, ℕ, List, [], ◌∷◌, length}
use Rattle.node_names.specs.NodeName.{Name}
use Rattle.protocol.specs.CoreState.{CoreState}
use Rattle.protocol.specs.Delivery.{Delivery}
use Rattle.protocol.specs.DeliveryLaw.{ids}
use Rattle.protocol.specs.PayloadLaw.{next_id}
use Rattle.protocol.specs.Stimulus.{Stimulus}
use Rattle.protocol.specs.declared.stimulus.StimulusOf.TheVariants.{Broadcast}

-- Each step delivers at most one message, and a broadcast delivers the core's own next one. Unlike the delivery law,
-- this holds of every core and of every sender, so a node that knows nothing of its senders can rely on it.
pub record OneDelivery {C N : Type 0} (state : C → CoreState) (steps : C → Stimulus N → List (Name × N) → List Delivery → C → Type 0) : Type 0 where
  pub at_most_one :
      (old : C) (stimulus : Stimulus N) (sends : List (Name × N)) (given : List Delivery) (new : C) → steps old stimulus sends given new → length given ≤ 1
  pub of_broadcast : (old : C) (payload : List ℕ) (sends : List (Name × N)) (given : List Delivery) (new : C) →
      steps old (Broadcast payload) sends given new →
      ids given ≡ next_id (state old) ∷ []
