-- What a step delivers, and what it then has.
use Rattle.std.specs.Prelude.{◌≡◌, ◌≢◌, ◌+◌, ◌≤◌, ◌<◌, ◌↔◌, ◌⊎◌, ℕ, List, [], ◌∷◌, Option, Some, None, true, false, map}
use Rattle.std.specs.List.{AllByRecursion as Each}
use Rattle.node_names.specs.declared.ids.MsgId.{MsgId}
use Rattle.protocol.specs.Content.{Content}
use Rattle.protocol.specs.CoreState.{CoreState}
use Rattle.protocol.specs.Delivery.{Delivery}
use Rattle.protocol.specs.Lists.{IsOneOf}
use Rattle.protocol.specs.PayloadLaw.{next_id}
use Rattle.protocol.specs.Stimulus.{Stimulus}
use Rattle.protocol.specs.declared.stimulus.StimulusOf.TheVariants.{Broadcast, Arrive, Fire, Flush, Down, Shuffle, Join}

-- the ids of the deliveries, in their order
abbrev pub ids : List Delivery → List MsgId
ids given = map (λ d. d.id) given

-- The message is news to the core: it lacks it, and is not its origin.
abbrev pub IsNews : CoreState → MsgId → Type 0
IsNews core id = (core.has id ≡ false) × (id.origin ≢ core.me)

-- A packet with this content makes the core deliver exactly these ids: the message that it carries, if that is news.
abbrev pub DeliversNews : CoreState → Option (MsgId × List ℕ) → List MsgId → Type 0
DeliversNews before None delivered = delivered ≡ []
DeliversNews before (Some carried) delivered = (IsNews before carried.0 × (delivered ≡ carried.0 ∷ [])) ⊎ ((IsNews before carried.0 → ⊥) × (delivered ≡ []))

-- The stimulus makes the core deliver exactly these ids: a broadcast its own next one, a packet the message that it
-- carries where that is news, and everything else none.
abbrev pub Delivers : {N : Type 0} → (N → Content) → CoreState → Stimulus N → List MsgId → Type 0
Delivers content before (Broadcast payload) delivered = delivered ≡ next_id before ∷ []
Delivers content before (Arrive sender note dice) delivered = DeliversNews before (content note).carried delivered
Delivers content before (Fire id) delivered = delivered ≡ []
Delivers content before Flush delivered = delivered ≡ []
Delivers content before (Down peer dice) delivered = delivered ≡ []
Delivers content before (Shuffle dice) delivered = delivered ≡ []
Delivers content before (Join contact) delivered = delivered ≡ []

-- the sequence numbers spent after the stimulus: a broadcast spends one
abbrev pub count_after : {N : Type 0} → ℕ → Stimulus N → ℕ
count_after count (Broadcast payload) = count + 1
count_after count (Arrive sender note dice) = count
count_after count (Fire id) = count
count_after count Flush = count
count_after count (Down peer dice) = count
count_after count (Shuffle dice) = count
count_after count (Join contact) = count

-- The deliveries are those that the stimulus demands, at this node, of what it had not; what it has grows by them
-- alone, and the count by a broadcast alone.
pub record DeliveryLaw {N : Type 0} (content : N → Content) (before : CoreState) (stimulus : Stimulus N) (given : List Delivery) (after : CoreState) :
    Type 0 where
  pub exact : Delivers content before stimulus (ids given)
  pub here : Each (λ d. d.node ≡ before.me) given
  pub fresh : Each (λ d. before.has d.id ≡ false) given
  pub grows : (id : MsgId) → (after.has id ≡ true) ↔ ((before.has id ≡ true) ⊎ IsOneOf id (ids given))
  pub counted : after.count ≡ count_after before.count stimulus

-- Of its own ids a core has only those that it has counted.
abbrev pub HasCountedIds : CoreState → Type 0
HasCountedIds core = (id : MsgId) → core.has id ≡ true → id.origin ≡ core.me → (0 < id.seq) × (id.seq ≤ core.count)
