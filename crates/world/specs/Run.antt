-- Runs: what each event does to a group.
use Rattle.std.specs.Prelude.{◌≡◌, ◌<◌, ◌↔◌, ℕ, List, [], ◌∷◌, ◌++◌, Option, Some, None, IfSome, IsTrue, false, length, slice_get, remove}
use Rattle.node_names.specs.NodeName.{Name}
use Rattle.node_names.specs.Limits.{Limits}
use Rattle.node_names.specs.declared.ids.Origin.{Origin}
use Rattle.protocol.specs.CoreState.{CoreState}
use Rattle.protocol.specs.Delivery.{Delivery}
use Rattle.protocol.specs.Lists.{places}
use Rattle.protocol.specs.Peers.{are_peers}
use Rattle.protocol.specs.SameNames.{SameNames}
use Rattle.protocol.specs.Stimulus.{Stimulus}
use Rattle.protocol.specs.declared.stimulus.StimulusOf.TheVariants as stimulus
use Rattle.world.specs.Entry.{Entry}
use Rattle.world.specs.Event.{Event}
use Rattle.world.specs.Group.{Group, Logged, IsEmptyGroup, node_of, put_node, origin_of, packets}
use Rattle.world.specs.declared.event.EventOf.TheVariants.{Start, Broadcast, Arrive, Lose, Again, Fire, Flush, Down, Shuffle, Join, Stop}
use Rattle.world.specs.declared.node_state.NodeState.{NodeState}
use Rattle.world.specs.declared.packet.Packet.{Packet}

-- The sends are appended to all packets that were sent, and put into flight behind what stays in flight.
pub record Sends {C N : Type 0} (before : Group C N) (staying : List ℕ) (sender : Origin) (sends : List (Name × N)) (after : Group C N) : Type 0 where
  pub sent : after.sent ≡ before.sent ++ packets sender sends
  pub flight : after.flight ≡ staying ++ places (length before.sent) (length sends)

-- A node starts under an incarnation greater than all its earlier ones, and replaces what ran under its name.
pub record Starts
    {C N : Type 0}
    (starts : Origin → Limits → List Name → Option Name → List (Name × N) → C → Type 0)
    (limits : Limits)
    (before : Group C N)
    (me : Origin)
    (peers : List Name)
    (contact : Option Name)
    (entry : Entry)
    (after : Group C N)
    : Type 0 where
  pub core : C
  pub sends : List (Name × N)
  pub fresh : IfSome (node_of me.name before.nodes) (λ node. node.highest.0 < me.incarnation.0)
  pub fit : IsTrue (are_peers limits me.name peers contact)
  pub started : starts me limits peers contact sends core
  pub nodes : after.nodes ≡ put_node (record { name = me.name; highest = me.incarnation; core = Some core }) before.nodes
  pub sending : Sends before before.flight me sends after
  pub nothing_given : entry.given ≡ []
  pub nothing_moved : entry.moved ≡ false

-- The core of a running node takes one step, and nothing else in the group does; `staying` stays in flight.
pub record Acts
    {C N : Type 0}
    (state : C → CoreState)
    (steps : C → Stimulus N → List (Name × N) → List Delivery → C → Type 0)
    (before : Group C N)
    (staying : List ℕ)
    (name : Name)
    (stimulus : Stimulus N)
    (entry : Entry)
    (after : Group C N)
    : Type 0 where
  pub node : NodeState C
  pub old : C
  pub new : C
  pub sends : List (Name × N)
  pub known : node_of name before.nodes ≡ Some node
  pub running : node.core ≡ Some old
  pub stepped : steps old stimulus sends entry.given new
  pub nodes : after.nodes ≡ put_node (record node { core = Some new }) before.nodes
  pub sending : Sends before staying (origin_of node) sends after
  pub moved : (entry.moved ≡ false) ↔ SameNames (state old).active (state new).active

-- The packet at a place in the flight reaches the node that runs under its receiver's name.
pub record Arrives
    {C N : Type 0}
    (state : C → CoreState)
    (steps : C → Stimulus N → List (Name × N) → List Delivery → C → Type 0)
    (before : Group C N)
    (place : ℕ)
    (stimulus_of : Packet N → Stimulus N)
    (entry : Entry)
    (after : Group C N)
    : Type 0 where
  pub number : ℕ
  pub packet : Packet N
  pub in_flight : slice_get before.flight place ≡ Some number
  pub sent : slice_get before.sent number ≡ Some packet
  pub named : entry.packet ≡ Some number
  pub acts : Acts state steps before (remove before.flight place) packet.to (stimulus_of packet) entry after

-- No core steps: the nodes and what was sent stay, and nothing is delivered.
pub record OnlyFlies {C N : Type 0} (before : Group C N) (entry : Entry) (after : Group C N) : Type 0 where
  pub nodes : after.nodes ≡ before.nodes
  pub sent : after.sent ≡ before.sent
  pub nothing_given : entry.given ≡ []
  pub nothing_moved : entry.moved ≡ false

-- The packet at a place in the flight leaves it.
pub record Loses {C N : Type 0} (before : Group C N) (place : ℕ) (entry : Entry) (after : Group C N) : Type 0 where
  pub number : ℕ
  pub in_flight : slice_get before.flight place ≡ Some number
  pub named : entry.packet ≡ Some number
  pub flight : after.flight ≡ remove before.flight place
  pub others : OnlyFlies before entry after

-- A packet that was sent is put last into flight once more.
pub record Repeats {C N : Type 0} (before : Group C N) (number : ℕ) (entry : Entry) (after : Group C N) : Type 0 where
  pub was_sent : number < length before.sent
  pub named : entry.packet ≡ Some number
  pub flight : after.flight ≡ before.flight ++ number ∷ []
  pub others : OnlyFlies before entry after

-- A running node's state is gone.
pub record Stops {C N : Type 0} (before : Group C N) (name : Name) (entry : Entry) (after : Group C N) : Type 0 where
  pub node : NodeState C
  pub old : C
  pub known : node_of name before.nodes ≡ Some node
  pub running : node.core ≡ Some old
  pub nodes : after.nodes ≡ put_node (record node { core = None }) before.nodes
  pub sent : after.sent ≡ before.sent
  pub flight : after.flight ≡ before.flight
  pub nothing_given : entry.given ≡ []
  pub nothing_moved : entry.moved ≡ false

module _
    {C N : Type 0}
    (state : C → CoreState)
    (starts : Origin → Limits → List Name → Option Name → List (Name × N) → C → Type 0)
    (steps : C → Stimulus N → List (Name × N) → List Delivery → C → Type 0)
    (limits : Limits)
  where
    -- what the event of the entry does, by its kind
    abbrev pub Effect : Group C N → Entry → Group C N → Event → Type 0
    Effect before entry after (Start name incarnation peers contact) =
        (entry.packet ≡ None) × Starts starts limits before (record { name = name; incarnation = incarnation }) peers contact entry after
    Effect before entry after (Broadcast name payload) =
        (entry.packet ≡ None) × Acts state steps before before.flight name (stimulus.Broadcast payload) entry after
    Effect before entry after (Arrive place dice) = Arrives state steps before place (λ packet. stimulus.Arrive packet.sender packet.note dice) entry after
    Effect before entry after (Lose place) = Loses before place entry after
    Effect before entry after (Again number) = Repeats before number entry after
    Effect before entry after (Fire name id) = (entry.packet ≡ None) × Acts state steps before before.flight name (stimulus.Fire id) entry after
    Effect before entry after (Flush name) = (entry.packet ≡ None) × Acts state steps before before.flight name stimulus.Flush entry after
    Effect before entry after (Down name peer dice) = (entry.packet ≡ None) × Acts state steps before before.flight name (stimulus.Down peer dice) entry after
    Effect before entry after (Shuffle name dice) = (entry.packet ≡ None) × Acts state steps before before.flight name (stimulus.Shuffle dice) entry after
    Effect before entry after (Join name contact) = (entry.packet ≡ None) × Acts state steps before before.flight name (stimulus.Join contact) entry after
    Effect before entry after (Stop name) = (entry.packet ≡ None) × Stops before name entry after

    -- The entry's event takes the group from before to after, and the entry says what came of it.
    abbrev pub Happens : Group C N → Entry → Group C N → Type 0
    Happens before entry after = (entry.first_sent ≡ length before.sent) × Effect before entry after entry.event

    -- The history, newest first, is a run that leads to this group.
    abbrev pub Run : List Entry → Group C N → Type 0
    Run [] group = IsEmptyGroup group
    Run (entry ∷ past) group = (before : Group C N) × Run past before × Happens before entry group

-- The entry is of this event, and says what it did.
pub record Tells
    {C N : Type 0}
    (state : C → CoreState)
    (starts : Origin → Limits → List Name → Option Name → List (Name × N) → C → Type 0)
    (steps : C → Stimulus N → List (Name × N) → List Delivery → C → Type 0)
    (limits : Limits)
    (event : Event)
    (before : Group C N)
    (entry : Entry)
    (after : Group C N)
    : Type 0 where
  pub of_event : entry.event ≡ event
  pub first_sent : entry.first_sent ≡ length before.sent
  pub effect : Effect state starts steps limits before entry after event

-- A call applies one event to the group: the log grows by an entry that says what happened, and the deliveries are
-- those of the entry.
pub record Applied
    {C N : Type 0}
    (state : C → CoreState)
    (starts : Origin → Limits → List Name → Option Name → List (Name × N) → C → Type 0)
    (steps : C → Stimulus N → List (Name × N) → List Delivery → C → Type 0)
    (event : Event)
    (given : List Delivery)
    (old new : Logged C N)
    : Type 0 where
  pub entry : Entry
  pub of_event : entry.event ≡ event
  pub gave : entry.given ≡ given
  pub happened : Happens state starts steps old.limits old.group entry new.group
  pub logged : new.log ≡ old.log ++ entry ∷ []
  pub same_limits : new.limits ≡ old.limits
