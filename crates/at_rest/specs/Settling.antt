-- How a group settles: by which events, in which order.
use Rattle.std.specs.Prelude.{◌≡◌, ◌≢◌, ◌<◌, ℕ, List, [], ◌∷◌, ◌++◌, Option, Some, None, replicate, reverse}
use Rattle.std.specs.List.{AllByRecursion as Each}
use Rattle.node_names.specs.NodeName.{Name}
use Rattle.node_names.specs.Limits.{Limits}
use Rattle.node_names.specs.declared.dice.Dice.{Dice}
use Rattle.node_names.specs.declared.ids.MsgId.{MsgId}
use Rattle.node_names.specs.declared.ids.Origin.{Origin}
use Rattle.protocol.specs.CoreState.{CoreState}
use Rattle.protocol.specs.Delivery.{Delivery}
use Rattle.protocol.specs.Stimulus.{Stimulus}
use Rattle.world.specs.Event.{Event}
use Rattle.world.specs.Group.{Group, Logged, core_of}
use Rattle.world.specs.History.{deliveries}
use Rattle.world.specs.Links.{Reaches}
use Rattle.world.specs.Rest.{AreFewSince, DeliveredAt, SaidAndCalm}
use Rattle.world.specs.Run.{Applied}
use Rattle.world.specs.declared.event.EventOf.TheVariants.{Start, Broadcast, Arrive, Lose, Again, Fire, Flush, Down, Shuffle, Join, Stop}
use Rattle.world.specs.declared.node_state.NodeState.{NodeState}

-- what is queued at the core, if one runs
abbrev pub queue_of : {C : Type 0} → (C → CoreState) → Option C → List (Name × MsgId × ℕ)
queue_of state None = []
queue_of state (Some core) = (state core).queued

-- the timers of the core, if one runs
abbrev pub timers_of : {C : Type 0} → (C → CoreState) → Option C → List MsgId
timers_of state None = []
timers_of state (Some core) = (state core).timers

-- Of these nodes the first at which something is left has this name, and `first` is the first thing that is left there.
pub record IsFirstWith {C X : Type 0} (left : Option C → List X) (nodes : List (NodeState C)) (name : Name) (first : X) : Type 0 where
  pub front : List (NodeState C)
  pub node : NodeState C
  pub back : List (NodeState C)
  pub others : List X
  pub stands : nodes ≡ front ++ node ∷ back
  pub named : name ≡ node.name
  pub nothing_before : Each (λ (other : NodeState C). left (core_of other.name nodes) ≡ []) front
  pub something : left (core_of name nodes) ≡ first ∷ others

-- Nothing is left at any node.
abbrev pub NothingIsLeft : {C X : Type 0} → (Option C → List X) → List (NodeState C) → Type 0
NothingIsLeft {C} left nodes = Each (λ (node : NodeState C). left (core_of node.name nodes) ≡ []) nodes

-- dice that are all zeros
abbrev pub no_dice : Dice
no_dice = record { 0 = replicate 16 0 }

module _ {C N : Type 0} (state : C → CoreState) where
  -- The event is the next to be played: while any packet is in flight, the oldest one arrives; otherwise the first node
  -- with queued announcements flushes them; otherwise the first timer of the first node with a timer fires. It is a
  -- relation, so that contracts can speak of each event that was played.
  abbrev pub IsNext : Group C N → Event → Type 0
  IsNext group (Arrive place dice) = (group.flight ≢ []) × (place ≡ 0) × (dice ≡ no_dice)
  IsNext group (Flush name) = (group.flight ≡ []) × ((entry : Name × MsgId × ℕ) × IsFirstWith (queue_of state) group.nodes name entry)
  IsNext group (Fire name id) = (group.flight ≡ []) × NothingIsLeft (queue_of state) group.nodes × IsFirstWith (timers_of state) group.nodes name id
  IsNext group (Start name incarnation peers contact) = ⊥
  IsNext group (Broadcast name payload) = ⊥
  IsNext group (Lose place) = ⊥
  IsNext group (Again number) = ⊥
  IsNext group (Down name peer dice) = ⊥
  IsNext group (Shuffle name dice) = ⊥
  IsNext group (Join name contact) = ⊥
  IsNext group (Stop name) = ⊥

  -- No packet is in flight, and nothing is queued or armed at any node.
  pub record IsSettled (group : Group C N) : Type 0 where
    pub nothing_flies : group.flight ≡ []
    pub nothing_queued : NothingIsLeft (queue_of state) group.nodes
    pub nothing_armed : NothingIsLeft (timers_of state) group.nodes

  module _
      (starts : Origin → Limits → List Name → Option Name → List (Name × N) → C → Type 0)
      (steps : C → Stimulus N → List (Name × N) → List Delivery → C → Type 0)
    where
      -- The events are played in turn, each the next one, and take the group from the old state to the new one.
      abbrev pub Settles : List Event → Logged C N → Logged C N → Type 0
      Settles [] old new = new ≡ old
      Settles (event ∷ events) old new =
          IsNext old.group event
          × ((given : List Delivery) × (between : Logged C N) × Applied state starts steps event given old between × Settles events between new)

-- In a group that came to rest: if a message had been broadcast and all had been calm since then when the group began
-- to settle, and if, unless all messages are kept, no node has delivered more than are kept since it delivered this
-- message, then every node in reach of the message's origin has delivered it.
abbrev pub AreDelivered : {C N : Type 0} → (C → CoreState) → Logged C N → Logged C N → Type 0
AreDelivered state old new =
    (id : MsgId) →
    SaidAndCalm (reverse old.log) id →
    (0 < new.limits.keep → AreFewSince new.limits.keep (deliveries (reverse new.log)) id) →
    (name : Name) →
    Reaches state new.group id.origin.name name →
    DeliveredAt new.group (reverse new.log) name id
