-- No core makes up a payload.
use Rattle.std.specs.Prelude.{◌≡◌, ◌+◌, ◌⊎◌, ℕ, List, Some, true}
use Rattle.std.specs.List.{AllByRecursion as Each}
use Rattle.node_names.specs.NodeName.{Name}
use Rattle.node_names.specs.declared.ids.MsgId.{MsgId}
use Rattle.protocol.specs.Content.{Content}
use Rattle.protocol.specs.CoreState.{CoreState}
use Rattle.protocol.specs.Delivery.{Delivery}
use Rattle.protocol.specs.Stimulus.{Stimulus}
use Rattle.protocol.specs.declared.stimulus.StimulusOf.TheVariants.{Broadcast, Arrive, Fire, Flush, Down, Shuffle, Join}

-- the id of the message that the core would broadcast next
abbrev pub next_id : CoreState → MsgId
next_id core = record { origin = core.me; seq = core.count + 1 }

-- The stimulus brings this payload under this id: it broadcasts it, or is a packet that carries it.
abbrev pub Brings : {N : Type 0} → (N → Content) → CoreState → Stimulus N → MsgId → List ℕ → Type 0
Brings content before (Broadcast payload) id p = (id ≡ next_id before) × (p ≡ payload)
Brings content before (Arrive sender note dice) id p = (content note).carried ≡ Some (id, p)
Brings content before (Fire wanted) id p = ⊥
Brings content before Flush id p = ⊥
Brings content before (Down peer dice) id p = ⊥
Brings content before (Shuffle dice) id p = ⊥
Brings content before (Join contact) id p = ⊥

-- The core held this payload under this id before the step, or the step brought it.
abbrev pub IsKnownPayload : {N : Type 0} → (N → Content) → CoreState → Stimulus N → MsgId → List ℕ → Type 0
IsKnownPayload content before stimulus id p = (before.payload id ≡ Some p) ⊎ Brings content before stimulus id p

-- What is sent, delivered or held after a step was held before it or came with it, and whoever sends a message
-- has it.
pub record PayloadLaw {N : Type 0} (content : N → Content) (before : CoreState)
    (stimulus : Stimulus N) (sends : List (Name × N)) (given : List Delivery) (after : CoreState) : Type 0 where
  pub sent : Each (λ send. (id : MsgId) (p : List ℕ) → (content send.1).carried ≡ Some (id, p) → IsKnownPayload content before stimulus id p) sends
  pub delivered : Each (λ d. IsKnownPayload content before stimulus d.id d.payload) given
  pub held : (id : MsgId) (p : List ℕ) → after.payload id ≡ Some p → IsKnownPayload content before stimulus id p
  pub sender_has : Each (λ send. (id : MsgId) (p : List ℕ) → (content send.1).carried ≡ Some (id, p) → after.has id ≡ true) sends
