-- How the actions of a scenario are played in a group.
use Rattle.std.specs.Prelude.{◌≡◌, ◌≢◌, ◌<◌, ◌≤◌, ℕ, zero, suc, false, List, [], ◌∷◌, ◌++◌, Option, Some}
use Rattle.std.specs.Prelude.{None, MatchOption, reverse, slice_get, take, IsPermutation, IsSorted}
use Rattle.std.specs.Io.KnownBytes.{Appends}
use Rattle.node_names.specs.Same.{has_id, has_name}
use Rattle.node_names.specs.NodeName.{Name}
use Rattle.node_names.specs.Limits.{Limits}
use Rattle.node_names.specs.Order.{id_cmp}
use Rattle.node_names.specs.declared.ids.MsgId.{MsgId}
use Rattle.node_names.specs.declared.ids.Origin.{Origin}
use Rattle.protocol.specs.Content.{Content}
use Rattle.protocol.specs.CoreState.{CoreState}
use Rattle.protocol.specs.Delivery.{Delivery}
use Rattle.protocol.specs.Stimulus.{Stimulus}
use Rattle.world.specs.Event.{Event}
use Rattle.world.specs.Group.{Group, Logged, core_of}
use Rattle.world.specs.History as history
use Rattle.world.specs.Refusals.{IsRefusal}
use Rattle.world.specs.Run.{Applied}
use Rattle.world.specs.declared.error.WorldError.{WorldError}
use Rattle.world.specs.declared.error.WorldError.TheVariants as world
use Rattle.world.specs.declared.event.EventOf.TheVariants as event
use Rattle.rand_core.specs.Stream.{Stream}
use Rattle.node_names.specs.declared.dice.Dice.{Dice}
use Rattle.at_rest.specs.Calm.{IsCalm}
use Rattle.at_rest.specs.Next.{IsNextSpent}
use Rattle.at_rest.specs.Settling.{IsSettled, Settles}
use Rattle.at_rest.specs.declared.error.SettleError.{SettleError}
use Rattle.at_rest.specs.declared.error.SettleError.TheVariants as settle
use Rattle.simulation.specs.Rolls.{after_roll, rolled, rolls_of}
use Rattle.simulation.specs.Lines.{line_cmp, lines_of}
use Rattle.simulation.specs.Trees.{broadcasts_of, TellsTrees}
use Rattle.scenario.specs.declared.action.Action.{Action}
use Rattle.scenario.specs.declared.action.Action.TheVariants.{Start, Broadcast, Arrive, Lose, Again, Fire, Flush, Shuffle, Join, Down, Stop, ArriveAll, Settle}
use Rattle.simulation.specs.declared.play.ActionError.{ActionError}
use Rattle.simulation.specs.declared.play.ActionError.TheVariants as halt
use Rattle.simulation.specs.declared.play.Idle.{Idle}
use Rattle.simulation.specs.declared.play.Idle.TheVariants as idle
use Rattle.simulation.specs.declared.play.PlayError.{PlayError}
use Rattle.simulation.specs.declared.play.PlayError.TheVariants as fault

-- the arrival of the oldest packet in flight
abbrev pub oldest : Dice → Event
oldest dice = event.Arrive 0 dice

-- the event that an action is played as, with these dice if it draws any; `arrive_all` and `settle` are not one event
-- but as many as it takes
abbrev pub event_of : Dice → Action → Option Event
event_of dice (Start node incarnation peers contact) = Some (event.Start node incarnation peers contact)
event_of dice (Broadcast node text) = Some (event.Broadcast node text)
event_of dice (Arrive place) = Some (event.Arrive place dice)
event_of dice (Lose place) = Some (event.Lose place)
event_of dice (Again number) = Some (event.Again number)
event_of dice (Fire node id) = Some (event.Fire node id)
event_of dice (Flush node) = Some (event.Flush node)
event_of dice (Shuffle node) = Some (event.Shuffle node dice)
event_of dice (Join node contact) = Some (event.Join node contact)
event_of dice (Down node peer) = Some (event.Down node peer dice)
event_of dice (Stop node) = Some (event.Stop node)
event_of dice ArriveAll = None
event_of dice Settle = None

-- the source of the dice after the event of an action: arrivals, ticks and failed links have drawn dice
abbrev pub rolls_after : Action → Option Stream → Option Stream
rolls_after (Start node incarnation peers contact) rolls = rolls
rolls_after (Broadcast node text) rolls = rolls
rolls_after (Arrive place) rolls = after_roll rolls
rolls_after (Lose place) rolls = rolls
rolls_after (Again number) rolls = rolls
rolls_after (Fire node id) rolls = rolls
rolls_after (Flush node) rolls = rolls
rolls_after (Shuffle node) rolls = after_roll rolls
rolls_after (Join node contact) rolls = rolls
rolls_after (Down node peer) rolls = after_roll rolls
rolls_after (Stop node) rolls = rolls
rolls_after ArriveAll rolls = rolls
rolls_after Settle rolls = rolls

-- the error of a run that stops at this event; a failed allocation is not attributed to the event
abbrev pub fault_of : ℕ → ActionError → PlayError
fault_of number (halt.Refused world.OutOfMemory) = fault.OutOfMemory
fault_of number (halt.Refused why) = fault.Refused number (record { 0 = why })
fault_of number halt.NoEnd = fault.NoEnd number
fault_of number (halt.Unsettled settle.OutOfMemory) = fault.OutOfMemory
fault_of number (halt.Unsettled why) = fault.Unsettled number (record { 0 = why })
fault_of number (halt.Idle why) = fault.Idle number why

-- all deliveries of a group, in the order in which they were made
abbrev pub delivered : {C N : Type 0} → Logged C N → List Delivery
delivered group = history.deliveries (reverse group.log)

-- a group without nodes
abbrev pub empty_group : {C N : Type 0} → Limits → Logged C N
empty_group limits = record { limits = limits; group = record { nodes = []; sent = []; flight = [] }; log = [] }

-- A group, and the source of its next dice.
pub record Standing (C N : Type 0) : Type 0 where
  pub rolls : Option Stream
  pub group : Logged C N

-- The action would do nothing, although its node runs: the timer that fires is not armed, or the link that fails does
-- not exist.
abbrev pub IsIdle : {C N : Type 0} → (C → CoreState) → Idle → Action → Group C N → Type 0
IsIdle {C} state idle.NoTimer action group =
    (node : Name) × (id : MsgId) × (core : C) × (action ≡ Fire node id) × (core_of node group.nodes ≡ Some core) × (has_id (state core).timers id ≡ false)
IsIdle {C} state idle.NoLink action group =
    (node : Name)
    × (peer : Name)
    × (core : C)
    × (action ≡ Down node peer)
    × (core_of node group.nodes ≡ Some core)
    × (has_name (state core).active peer ≡ false)

module _
    {C N : Type 0}
    (state : C → CoreState)
    (starts : Origin → Limits → List Name → Option Name → List (Name × N) → C → Type 0)
    (steps : C → Stimulus N → List (Name × N) → List Delivery → C → Type 0)
  where
    -- The event takes the group from the old state to the new one, whatever it delivers.
    abbrev pub Takes : Event → Logged C N → Logged C N → Type 0
    Takes e old new = (given : List Delivery) × Applied state starts steps e given old new

    -- The oldest packet arrives, with the next dice.
    pub record Arrives (old new : Standing C N) : Type 0 where
      pub taken : Takes (oldest (rolled old.rolls)) old.group new.group
      pub rolled_on : new.rolls ≡ after_roll old.rolls

    -- The oldest packet arrives, the given number of times.
    abbrev pub Drains : ℕ → Standing C N → Standing C N → Type 0
    Drains zero old new = new ≡ old
    Drains (suc n) old new = (between : Standing C N) × Drains n old between × Arrives between new

    -- The group was brought to rest, event by event, without dice.
    pub record Rests (old new : Standing C N) : Type 0 where
      pub events : List Event
      pub settles : Settles state starts steps events old.group new.group
      pub settled : IsSettled state new.group.group
      pub no_roll : new.rolls ≡ old.rolls

    -- An action of many events is played: by at most `most` arrivals, until no packet is in flight, or by settling.
    abbrev pub PlaysMany : ℕ → Action → Standing C N → Standing C N → Type 0
    PlaysMany most Settle old new = Rests old new
    PlaysMany most action old new = (n : ℕ) × (n ≤ most) × Drains n old new × (new.group.group.flight ≡ [])

    -- The action is played: as its one event, with the next dice if it draws any, or as many events.
    abbrev pub PlaysAction : ℕ → Action → Standing C N → Standing C N → Type 0
    PlaysAction most action old new = MatchOption (event_of (rolled old.rolls) action)
        (PlaysMany most action old new)
        (λ e. Takes e old.group new.group × (new.rolls ≡ rolls_after action old.rolls))

    -- The actions are played in order.
    abbrev pub PlaysActions : ℕ → List Action → Standing C N → Standing C N → Type 0
    PlaysActions most [] old new = new ≡ old
    PlaysActions most (action ∷ actions) old new = (between : Standing C N) × PlaysAction most action old between × PlaysActions most actions between new

    module _ (content : N → Content) (is_spent : C → Stimulus N → Type 0) where
      -- The group refuses the event with this error.
      abbrev pub Refuses : Event → WorldError → Logged C N → Type 0
      Refuses e why group = IsRefusal is_spent group.limits group.group e why

      -- Settling ends early: the group is not calm, or after some events a node is out of numbers or an allocation
      -- fails.
      abbrev pub StopsSettling : SettleError → Logged C N → Logged C N → Type 0
      StopsSettling settle.NotCalm old new = (new ≡ old) × (IsCalm state content old.group → ⊥)
      StopsSettling settle.SeqSpent old new =
          (events : List Event) × Settles state starts steps events old new × IsNextSpent state starts steps is_spent new.group
      StopsSettling settle.OutOfMemory old new = (events : List Event) × Settles state starts steps events old new

      -- An action stops early: its event, or an arrival after some others, is refused, or a packet is still in flight
      -- after the maximum number of arrivals, or settling ends early, or the action does nothing.
      abbrev pub HaltsIn : ℕ → Action → ActionError → Standing C N → Logged C N → Type 0
      HaltsIn most action (halt.Refused why) old new = MatchOption (event_of (rolled old.rolls) action)
          ((n : ℕ) × (n < most) × (between : Standing C N) × Drains n old between × (new ≡ between.group) × Refuses (oldest (rolled between.rolls)) why new)
          (λ e. (new ≡ old.group) × Refuses e why new)
      HaltsIn most action (halt.Unsettled why) old new = (event_of (rolled old.rolls) action ≡ None) × StopsSettling why old.group new
      HaltsIn most action (halt.Idle why) old new = (new ≡ old.group) × IsIdle state why action old.group.group
      HaltsIn most action halt.NoEnd old new =
          (event_of (rolled old.rolls) action ≡ None)
          × (n : ℕ)
          × (n ≡ most)
          × (between : Standing C N)
          × Drains n old between
          × (new ≡ between.group)
          × (new.group.flight ≢ [])

      -- The run stops at the action with this number, after all those before it were played.
      pub record HaltsAt (most : ℕ) (actions : List Action) (number : ℕ) (stop : ActionError) (old : Standing C N) (new : Logged C N) : Type 0 where
        pub action : Action
        pub before : Standing C N
        pub listed : slice_get actions number ≡ Some action
        pub played : PlaysActions most (take number actions) old before
        pub halted : HaltsIn most action stop before new

      -- The error is that of a run that stops at some action.
      abbrev pub IsHalted : ℕ → List Action → PlayError → Standing C N → Logged C N → Type 0
      IsHalted most actions stopped old new = (number : ℕ) × (stop : ActionError) × (stopped ≡ fault_of number stop) × HaltsAt most actions number stop old new

-- The output gains what is printed for a group and its deliveries: the lines of the deliveries, sorted, and then those
-- of each message that was broadcast, in the order of their ids.
pub record PrintsGroup {C N : Type 0} (state : C → CoreState) (content : N → Content)
    (group : Logged C N) (deliveries : List Delivery) (before after : Option (List ℕ)) : Type 0 where
  pub lines : List Delivery
  pub messages : List MsgId
  pub trees : List ℕ
  pub complete : IsPermutation deliveries lines
  pub sorted : IsSorted line_cmp lines
  pub all_messages : IsPermutation (broadcasts_of lines) messages
  pub in_order : IsSorted id_cmp messages
  pub told : TellsTrees state content group messages trees
  pub written : Appends before after (lines_of lines ++ trees)

-- The output gains what is printed for a group that played these actions.
pub record Prints
    {C N : Type 0}
    (state : C → CoreState)
    (content : N → Content)
    (starts : Origin → Limits → List Name → Option Name → List (Name × N) → C → Type 0)
    (steps : C → Stimulus N → List (Name × N) → List Delivery → C → Type 0)
    (most : ℕ)
    (seed : Option ℕ)
    (limits : Limits)
    (actions : List Action)
    (before after : Option (List ℕ))
    : Type 0 where
  pub group : Logged C N
  pub rolls : Option Stream
  pub played : PlaysActions state starts steps most actions
      (record { rolls = rolls_of seed; group = empty_group limits }) (record { rolls = rolls; group = group })
  pub printed : PrintsGroup state content group (delivered group) before after

-- The output gains what is printed for a group that played these actions up to the one at which it stopped with this
-- error.
pub record PrintsHalted
    {C N : Type 0}
    (state : C → CoreState)
    (content : N → Content)
    (starts : Origin → Limits → List Name → Option Name → List (Name × N) → C → Type 0)
    (steps : C → Stimulus N → List (Name × N) → List Delivery → C → Type 0)
    (is_spent : C → Stimulus N → Type 0)
    (most : ℕ)
    (seed : Option ℕ)
    (limits : Limits)
    (actions : List Action)
    (stopped : PlayError)
    (before after : Option (List ℕ))
    : Type 0 where
  pub group : Logged C N
  pub halted : IsHalted state starts steps content is_spent most actions stopped (record { rolls = rolls_of seed; group = empty_group limits }) group
  pub printed : PrintsGroup state content group (delivered group) before after
