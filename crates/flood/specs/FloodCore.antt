-- The flooding core: it delivers and holds each new message, and sends it to every peer but the one that it came from.
use Rattle.std.specs.Prelude.{◌≡◌, ◌+◌, ◌-◌, ◌^◌, ◌<◌, ◌≤◌, ◌&&◌, ℕ, Bool, true, false, not, if◌then◌else◌}
use Rattle.std.specs.Prelude.{List, [], ◌∷◌, ◌++◌, Option, Some, None, length, map, filter, is_some}
use Rattle.std.specs.Bool.{MatchBool}
use Rattle.std.specs.List.{IsDistinct}
use Rattle.std.specs.Map.{keys_of, lookup}
use Rattle.std.specs.Set.{remove_key}
use Rattle.node_names.specs.NodeName.{Name}
use Rattle.node_names.specs.Limits.{Limits}
use Rattle.node_names.specs.Same.{same_name, same_origin, same_id, has_name, is_left_out}
use Rattle.node_names.specs.declared.ids.MsgId.{MsgId}
use Rattle.node_names.specs.declared.ids.Origin.{Origin}
use Rattle.protocol.specs.Content.{Content}
use Rattle.protocol.specs.CoreState.{CoreState}
use Rattle.protocol.specs.Delivery.{Delivery}
use Rattle.protocol.specs.Stimulus.{Stimulus}
use Rattle.protocol.specs.declared.TheConstants.{MAX_PAYLOAD}
use Rattle.protocol.specs.declared.stimulus.StimulusOf.TheVariants.{Broadcast, Arrive, Fire, Flush, Down, Shuffle, Join}

-- A message, which is what a packet of the flooding core is.
pub record Message : Type 0 where
  pub id : MsgId
  pub payload : List ℕ

-- Who the core is, its peers, the messages that it has delivered with their payloads, in order, and how many it has
-- broadcast.
pub record Flooding : Type 0 where
  pub me : Origin
  pub peers : List Name
  pub held : List (MsgId × List ℕ)
  pub count : ℕ

-- a packet says its message, and nothing else
abbrev pub note_content : Message → Content
note_content note = record { carried = Some (note.id, note.payload); announced = []; asked = None; is_membership = false }

-- the payload of the message
abbrev pub payload_of : Flooding → MsgId → Option (List ℕ)
payload_of core id = lookup (same_id id) core.held

-- what the core shows of itself
abbrev pub flood_state : Flooding → CoreState
flood_state core =
    record {
      me = core.me;
      has = λ id. is_some (payload_of core id);
      payload = payload_of core;
      held = keys_of core.held;
      active = core.peers;
      passive = [];
      queued = [];
      wants = [];
      timers = [];
      count = core.count;
    }

-- The core starts with its peers and nothing else; it sends nothing, and its contact does nothing.
pub record FloodStarts (me : Origin) (limits : Limits) (peers : List Name) (contact : Option Name) (sends : List (Name × Message)) (core : Flooding) :
    Type 0 where
  pub is_me : core.me ≡ me
  pub its_peers : core.peers ≡ peers
  pub holds_nothing : core.held ≡ []
  pub counts_nothing : core.count ≡ 0
  pub silent : sends ≡ []

-- whether the message is new to the core, and of another origin
abbrev pub is_news : Flooding → MsgId → Bool
is_news core id = not (is_some (payload_of core id)) && not (same_origin id.origin core.me)

-- the packet that carries the message to the peer
abbrev pub note_to : MsgId → List ℕ → Name → (Name × Message)
note_to id payload peer = (peer, record { id = id; payload = payload })

-- The core takes the message: it delivers it, holds it and sends it to these names.
pub record Takes (old : Flooding) (id : MsgId) (payload : List ℕ) (receivers : List Name)
    (count : ℕ) (sends : List (Name × Message)) (given : List Delivery) (new : Flooding) : Type 0 where
  pub delivers : given ≡ record { node = old.me; id = id; payload = payload } ∷ []
  pub forwards : sends ≡ map (note_to id payload) receivers
  pub holds : new ≡ record old { held = old.held ++ (id, payload) ∷ []; count = count }

-- Nothing happens.
pub record IsIdle (old : Flooding) (sends : List (Name × Message)) (given : List Delivery) (new : Flooding) : Type 0 where
  pub delivers_nothing : given ≡ []
  pub sends_nothing : sends ≡ []
  pub stays : new ≡ old

-- A link failed: its peer is a peer no longer.
pub record DropsPeer (old : Flooding) (peer : Name) (sends : List (Name × Message)) (given : List Delivery) (new : Flooding) : Type 0 where
  pub delivers_nothing : given ≡ []
  pub sends_nothing : sends ≡ []
  pub without : new ≡ record old { peers = remove_key (same_name peer) old.peers }

-- the names but for the one that is left out
abbrev pub others : Option Name → List Name → List Name
others left_out names = filter (λ name. not (is_left_out left_out name)) names

-- A broadcast takes the core's own next message and sends it to every peer; a packet's message is taken if it is news,
-- and goes to every peer but its sender; a failed link drops its peer; everything else does nothing.
abbrev pub FloodSteps : Flooding → Stimulus Message → List (Name × Message) → List Delivery → Flooding → Type 0
FloodSteps old (Broadcast payload) sends given new =
    (length payload ≤ MAX_PAYLOAD) × Takes old (record { origin = old.me; seq = old.count + 1 }) payload (others None old.peers) (old.count + 1) sends given new
FloodSteps old (Arrive sender note dice) sends given new =
    MatchBool (is_news old note.id)
    (Takes old note.id note.payload (others (Some sender.name) old.peers) old.count sends given new) (IsIdle old sends given new)
FloodSteps old (Fire id) sends given new = IsIdle old sends given new
FloodSteps old Flush sends given new = IsIdle old sends given new
FloodSteps old (Down peer dice) sends given new = DropsPeer old peer sends given new
FloodSteps old (Shuffle dice) sends given new = IsIdle old sends given new
FloodSteps old (Join contact) sends given new = IsIdle old sends given new

-- the core that holds the message, if it is news
abbrev pub with_news : Flooding → Message → Flooding
with_news core note = if is_news core note.id then record core { held = core.held ++ (note.id, note.payload) ∷ [] } else core

-- the core that goes on after the stimulus
abbrev pub flood_after : Flooding → Stimulus Message → Flooding
flood_after core (Broadcast payload) =
    record core { held = core.held ++ (record { origin = core.me; seq = core.count + 1 }, payload) ∷ []; count = core.count + 1 }
flood_after core (Arrive sender note dice) = with_news core note
flood_after core (Fire id) = core
flood_after core Flush = core
flood_after core (Down peer dice) = record core { peers = remove_key (same_name peer) core.peers }
flood_after core (Shuffle dice) = core
flood_after core (Join contact) = core

-- The core keeps nothing between the two halves of a step; for a broadcast, a sequence number is left.
abbrev pub IsFloodTurn : Flooding → Stimulus Message → Unit {0} → Type 0
IsFloodTurn core (Broadcast payload) turn = core.count < 2 ^ 64 - 1
IsFloodTurn core (Arrive sender note dice) turn = Unit {0}
IsFloodTurn core (Fire id) turn = Unit {0}
IsFloodTurn core Flush turn = Unit {0}
IsFloodTurn core (Down peer dice) turn = Unit {0}
IsFloodTurn core (Shuffle dice) turn = Unit {0}
IsFloodTurn core (Join contact) turn = Unit {0}

-- The stimulus is a broadcast, and the core has spent all its sequence numbers.
abbrev pub FloodIsSpent : Flooding → Stimulus Message → Type 0
FloodIsSpent core (Broadcast payload) = core.count ≡ 2 ^ 64 - 1
FloodIsSpent core (Arrive sender note dice) = ⊥
FloodIsSpent core (Fire id) = ⊥
FloodIsSpent core Flush = ⊥
FloodIsSpent core (Down peer dice) = ⊥
FloodIsSpent core (Shuffle dice) = ⊥
FloodIsSpent core (Join contact) = ⊥

-- Of the messages of this origin only the counted ones are held.
abbrev pub HoldsCounted : Origin → List (MsgId × List ℕ) → ℕ → Type 0
HoldsCounted me held count = (id : MsgId) → is_some (lookup (same_id id) held) ≡ true → id.origin ≡ me → (0 < id.seq) × (id.seq ≤ count)

-- What always holds: the peers fit the limits, are distinct others, and the core's own messages are those that it
-- counted.
pub record IsSoundFlooding (limits : Limits) (core : Flooding) : Type 0 where
  pub within : length core.peers ≤ limits.active
  pub distinct : IsDistinct same_name core.peers
  pub of_others : has_name core.peers core.me.name ≡ false
  pub counted : HoldsCounted core.me core.held core.count
