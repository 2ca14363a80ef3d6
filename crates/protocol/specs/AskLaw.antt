-- How a core asks for what it wants.
use Rattle.std.specs.Prelude.{◌≡◌, ◌≢◌, ◌⊎◌, ℕ, List, [], ◌∷◌, ◌++◌, Some, None, false}
use Rattle.std.specs.List.{AllByRecursion as Each}
use Rattle.node_names.specs.NodeName.{Name}
use Rattle.node_names.specs.declared.ids.MsgId.{MsgId}
use Rattle.protocol.specs.Content.{Content}
use Rattle.protocol.specs.CoreState.{CoreState}
use Rattle.protocol.specs.Delivery.{Delivery}
use Rattle.protocol.specs.DeliveryLaw.{ids}
use Rattle.protocol.specs.Lists.{IsOneOf}
use Rattle.node_names.specs.Same.{has_name}
use Rattle.protocol.specs.Stimulus.{Stimulus}
use Rattle.protocol.specs.declared.stimulus.StimulusOf.TheVariants.{Broadcast, Arrive, Fire, Flush, Down, Shuffle, Join}

-- No entry is about the id.
abbrev pub HasNoEntry : MsgId → List (MsgId × Name × ℕ) → Type 0
HasNoEntry id wants = Each (λ entry. entry.0 ≢ id) wants

-- No packet asks for anything.
abbrev pub AsksNothing : {N : Type 0} → (N → Content) → List (Name × N) → Type 0
AsksNothing content sends = Each (λ send. (content send.1).asked ≡ None) sends

-- The firing asks the peer of the id's first entry, by one packet that says nothing else, takes that entry out and
-- keeps the timer.
pub record AsksFirst {N : Type 0} (content : N → Content) (before : CoreState) (id : MsgId) (sends : List (Name × N)) (after : CoreState) : Type 0 where
  pub peer : Name
  pub round : ℕ
  pub note : N
  pub front : List (MsgId × Name × ℕ)
  pub back : List (MsgId × Name × ℕ)
  pub stood : before.wants ≡ front ++ (id, peer, round) ∷ back
  pub first : HasNoEntry id front
  pub one_packet : sends ≡ (peer, note) ∷ []
  pub asks : (content note).asked ≡ Some id
  pub taken_out : after.wants ≡ front ++ back
  pub keeps_timer : after.timers ≡ before.timers

-- The firing of a timer without an entry drops the timer, and sends nothing.
pub record DropsTimer {N : Type 0} (before : CoreState) (id : MsgId) (sends : List (Name × N)) (after : CoreState) : Type 0 where
  pub front : List MsgId
  pub back : List MsgId
  pub stood : before.timers ≡ front ++ id ∷ back
  pub without : HasNoEntry id before.wants
  pub dropped : after ≡ record before { timers = front ++ back }
  pub silent : sends ≡ []

-- A firing for an id without a timer changes nothing, and sends nothing.
pub record FiresNothing {N : Type 0} (before : CoreState) (id : MsgId) (sends : List (Name × N)) (after : CoreState) : Type 0 where
  pub unarmed : IsOneOf id before.timers → ⊥
  pub unchanged : after ≡ before
  pub silent : sends ≡ []

-- A firing does one of the three, and nothing but a firing asks.
abbrev pub Fires : {N : Type 0} → (N → Content) → CoreState → Stimulus N → List (Name × N) → CoreState → Type 0
Fires content before (Fire id) sends after =
    FiresNothing before id sends after ⊎ DropsTimer before id sends after ⊎ (IsOneOf id before.timers × AsksFirst content before id sends after)
Fires content before (Broadcast payload) sends after = AsksNothing content sends
Fires content before (Arrive sender note dice) sends after = AsksNothing content sends
Fires content before Flush sends after = AsksNothing content sends
Fires content before (Down peer dice) sends after = AsksNothing content sends
Fires content before (Shuffle dice) sends after = AsksNothing content sends
Fires content before (Join contact) sends after = AsksNothing content sends

-- The stimulus is the firing of the id's timer.
abbrev pub IsFiringOf : {N : Type 0} → MsgId → Stimulus N → Type 0
IsFiringOf id (Fire fired) = id ≡ fired
IsFiringOf id (Broadcast payload) = ⊥
IsFiringOf id (Arrive sender note dice) = ⊥
IsFiringOf id Flush = ⊥
IsFiringOf id (Down peer dice) = ⊥
IsFiringOf id (Shuffle dice) = ⊥
IsFiringOf id (Join contact) = ⊥

-- The step is a firing that asks the name for the id.
abbrev pub AsksFor : {N : Type 0} → (N → Content) → Stimulus N → List (Name × N) → MsgId → Name → Type 0
AsksFor {N} content stimulus sends id name = IsFiringOf id stimulus × ((note : N) × ((content note).asked ≡ Some id) × (sends ≡ (name, note) ∷ []))

-- An entry leaves only when its message is delivered, when its peer is asked, or when its peer is active no longer. A
-- timer goes only when its message is delivered or when it fires without an entry.
pub record AskLaw {N : Type 0} (content : N → Content) (before : CoreState)
    (stimulus : Stimulus N) (sends : List (Name × N)) (given : List Delivery) (after : CoreState) : Type 0 where
  pub fires : Fires content before stimulus sends after
  pub entry_stays : Each (λ entry.
      IsOneOf entry after.wants ⊎ IsOneOf entry.0 (ids given) ⊎ AsksFor content stimulus sends entry.0 entry.1 ⊎ (has_name after.active entry.1 ≡ false))
      before.wants
  pub timer_stays : Each (λ id. IsOneOf id after.timers ⊎ IsOneOf id (ids given) ⊎ (IsFiringOf id stimulus × HasNoEntry id before.wants)) before.timers
