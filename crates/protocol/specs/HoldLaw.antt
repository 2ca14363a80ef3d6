-- What a core holds, and how it answers.
use Rattle.std.specs.Prelude.{◌≡◌, ◌⊎◌, ◌↔◌, ◌<◌, ◌≤◌, ℕ, List, [], ◌++◌, Some, true, IsSome, count_by, length}
use Rattle.std.specs.List.{AllByRecursion as Each}
use Rattle.node_names.specs.NodeName.{Name}
use Rattle.node_names.specs.declared.ids.MsgId.{MsgId}
use Rattle.protocol.specs.Content.{Content}
use Rattle.protocol.specs.CoreState.{CoreState}
use Rattle.protocol.specs.Delivery.{Delivery}
use Rattle.protocol.specs.DeliveryLaw.{ids}
use Rattle.protocol.specs.Lists.{IsOneOf}
use Rattle.protocol.specs.SpreadLaw.{is_carried, packets_carrying}
use Rattle.protocol.specs.Stimulus.{Stimulus}
use Rattle.protocol.specs.declared.stimulus.StimulusOf.TheVariants.{Broadcast, Arrive, Fire, Flush, Down, Shuffle, Join}

-- What a core has, it holds.
abbrev pub HoldsWhatItHas : CoreState → Type 0
HoldsWhatItHas core = (id : MsgId) → core.has id ≡ true → IsSome (core.payload id)

-- The messages that a core holds are those that it lists.
abbrev pub HoldsWhatItLists : CoreState → Type 0
HoldsWhatItLists core = (id : MsgId) → IsSome (core.payload id) ↔ IsOneOf id core.held

-- Of all these messages, in order of delivery, the last ones are held: all of them, or, where `keep` is not 0, at least
-- `keep` of them. A core may hold more, as the flooding core does, which forgets nothing.
pub record AreLast (keep : ℕ) (all held : List MsgId) : Type 0 where
  pub forgotten : List MsgId
  pub in_order : all ≡ forgotten ++ held
  pub enough : (forgotten ≡ []) ⊎ ((0 < keep) × (keep ≤ length held))

-- A step appends what it delivers to the list. Only a step that delivers takes ids off the list, from its front, and
-- only while there are more of them than are to be kept.
pub record KeepsLast (keep : ℕ) (before delivered after : List MsgId) : Type 0 where
  pub last : AreLast keep (before ++ delivered) after
  pub stays : delivered ≡ [] → after ≡ before

-- The stimulus is a packet by which the name asks for the id.
abbrev pub IsAskedBy : {N : Type 0} → (N → Content) → Stimulus N → MsgId → Name → Type 0
IsAskedBy content (Broadcast payload) id name = ⊥
IsAskedBy content (Arrive sender note dice) id name = ((content note).asked ≡ Some id) × (name ≡ sender.name)
IsAskedBy content (Fire wanted) id name = ⊥
IsAskedBy content Flush id name = ⊥
IsAskedBy content (Down peer dice) id name = ⊥
IsAskedBy content (Shuffle dice) id name = ⊥
IsAskedBy content (Join contact) id name = ⊥

-- how many packets carry the message, whoever they go to
abbrev pub packets_with : {N : Type 0} → (N → Content) → MsgId → List (Name × N) → ℕ
packets_with content id sends = count_by (λ send. is_carried id (content send.1).carried) sends

-- Who asks for a held message gets exactly one packet that carries it, and no one else does. Payloads are sent only so,
-- and to spread what the step delivers.
pub record HoldLaw {N : Type 0} (content : N → Content) (before : CoreState) (stimulus : Stimulus N) (sends : List (Name × N)) (given : List Delivery) :
    Type 0 where
  pub answers : (id : MsgId) (name : Name) →
      IsAskedBy content stimulus id name →
      IsSome (before.payload id) →
      (packets_carrying content id name sends ≡ 1) × (packets_with content id sends ≡ 1)
  pub only : Each (λ send. (id : MsgId) (p : List ℕ) →
      (content send.1).carried ≡ Some (id, p) →
      IsOneOf id (ids given) ⊎ (IsAskedBy content stimulus id send.0 × IsSome (before.payload id)))
      sends
