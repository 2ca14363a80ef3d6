-- What a history says of nodes and messages. A history is the log's entries, the newest first.
use Rattle.std.specs.Prelude.{◌≡◌, ◌⊎◌, ℕ, suc, List, [], ◌∷◌, ◌++◌, Option, Some, None, filter, if◌then◌else◌}
use Rattle.node_names.specs.NodeName.{Name}
use Rattle.node_names.specs.Same.{same_name, same_origin}
use Rattle.node_names.specs.declared.ids.Incarnation.{Incarnation}
use Rattle.node_names.specs.declared.ids.MsgId.{MsgId}
use Rattle.node_names.specs.declared.ids.Origin.{Origin}
use Rattle.protocol.specs.Delivery.{Delivery}
use Rattle.protocol.specs.DeliveryLaw.{ids}
use Rattle.world.specs.Entry.{Entry}
use Rattle.world.specs.Event.{Event}
use Rattle.world.specs.declared.event.EventOf.TheVariants.{Start, Broadcast, Arrive, Lose, Again, Fire, Flush, Down, Shuffle, Join, Stop}

-- the incarnation in the last start of the name after this event, given what it was before
abbrev pub started_by : Name → Event → Option Incarnation → Option Incarnation
started_by name (Start started incarnation peers contact) before = if same_name name started then Some incarnation else before
started_by name (Broadcast sender payload) before = before
started_by name (Arrive place dice) before = before
started_by name (Lose place) before = before
started_by name (Again number) before = before
started_by name (Fire node id) before = before
started_by name (Flush node) before = before
started_by name (Down node peer dice) before = before
started_by name (Shuffle node dice) before = before
started_by name (Join node contact) before = before
started_by name (Stop node) before = before

-- the incarnation in the last start of the name
abbrev pub incarnation_of : Name → List Entry → Option Incarnation
incarnation_of name [] = None
incarnation_of name (entry ∷ past) = started_by name entry.event (incarnation_of name past)

-- how many broadcasts of the name there were since its last start after this event, given how many there were before
abbrev pub counted_by : Name → Event → ℕ → ℕ
counted_by name (Start started incarnation peers contact) before = if same_name name started then 0 else before
counted_by name (Broadcast sender payload) before = if same_name name sender then suc before else before
counted_by name (Arrive place dice) before = before
counted_by name (Lose place) before = before
counted_by name (Again number) before = before
counted_by name (Fire node id) before = before
counted_by name (Flush node) before = before
counted_by name (Down node peer dice) before = before
counted_by name (Shuffle node dice) before = before
counted_by name (Join node contact) before = before
counted_by name (Stop node) before = before

-- how many broadcasts of the name there were since its last start
abbrev pub broadcasts_of : Name → List Entry → ℕ
broadcasts_of name [] = 0
broadcasts_of name (entry ∷ past) = counted_by name entry.event (broadcasts_of name past)

-- After this past the event says the message with this payload: it is the broadcast that the id numbers, by the name
-- and under the incarnation of its last start.
abbrev pub Says : Event → List Entry → MsgId → List ℕ → Type 0
Says (Broadcast name payload) past id p =
    (id.origin.name ≡ name) × (incarnation_of name past ≡ Some id.origin.incarnation) × (id.seq ≡ suc (broadcasts_of name past)) × (p ≡ payload)
Says (Start name incarnation peers contact) past id p = ⊥
Says (Arrive place dice) past id p = ⊥
Says (Lose place) past id p = ⊥
Says (Again number) past id p = ⊥
Says (Fire name fired) past id p = ⊥
Says (Flush name) past id p = ⊥
Says (Down name peer dice) past id p = ⊥
Says (Shuffle name dice) past id p = ⊥
Says (Join name contact) past id p = ⊥
Says (Stop name) past id p = ⊥

-- The history said the message with this payload.
abbrev pub Said : List Entry → MsgId → List ℕ → Type 0
Said [] id p = ⊥
Said (entry ∷ past) id p = Says entry.event past id p ⊎ Said past id p

-- all deliveries of the history, in the order in which they were given
abbrev pub deliveries : List Entry → List Delivery
deliveries [] = []
deliveries (entry ∷ past) = deliveries past ++ entry.given

-- The deliveries have one of the message at this run of the node.
abbrev pub HasDelivery : List Delivery → Origin → MsgId → Type 0
HasDelivery [] node id = ⊥
HasDelivery (d ∷ given) node id = ((d.node ≡ node) × (d.id ≡ id)) ⊎ HasDelivery given node id

-- This run of the node delivered the message.
abbrev pub Delivered : List Entry → Origin → MsgId → Type 0
Delivered history node id = HasDelivery (deliveries history) node id

-- the ids of what this run of a node delivered, in order
abbrev pub delivered_by : Origin → List Delivery → List MsgId
delivered_by node given = ids (filter (λ d. same_origin node d.node) given)
