-- What carries a message on: as long as a node has it and a linked one lacks it, something is under way between the
-- two.
use Rattle.std.specs.Prelude.{◌≡◌, ℕ, List, Some, slice_get, true, false}
use Rattle.node_names.specs.NodeName.{Name}
use Rattle.node_names.specs.Same.{has_name}
use Rattle.node_names.specs.declared.ids.MsgId.{MsgId}
use Rattle.protocol.specs.Content.{Content}
use Rattle.protocol.specs.CoreState.{CoreState}
use Rattle.protocol.specs.Lists.{IsOneOf}
use Rattle.protocol.specs.WantLaw.{IsWanted}
use Rattle.world.specs.Group.{Group}
use Rattle.world.specs.Links.{Runs}
use Rattle.world.specs.declared.packet.Packet.{Packet}

-- A packet with such a content is in flight from the one name to the other.
pub record IsInFlight {N : Type 0} (content : N → Content) (sent : List (Packet N)) (flight : List ℕ) (Such : Content → Type 0) (from to : Name) : Type 0 where
  pub number : ℕ
  pub packet : Packet N
  pub flies : IsOneOf number flight
  pub was_sent : slice_get sent number ≡ Some packet
  pub sender : packet.sender.name ≡ from
  pub receiver : packet.to ≡ to
  pub is_such : Such (content packet.note)

-- The content carries the message.
abbrev pub CarriesIt : MsgId → Content → Type 0
CarriesIt id content = (p : List ℕ) × (content.carried ≡ Some (id, p))

-- The content announces the message.
abbrev pub AnnouncesIt : MsgId → Content → Type 0
AnnouncesIt id content = (round : ℕ) × IsOneOf (id, round) content.announced

-- The content asks for the message.
abbrev pub AsksForIt : MsgId → Content → Type 0
AsksForIt id content = content.asked ≡ Some id

-- The core has an announcement of the message queued for the name.
abbrev pub IsQueued : CoreState → MsgId → Name → Type 0
IsQueued core id name = (round : ℕ) × IsOneOf (name, id, round) core.queued

-- One of five is under way from a node that has the message to one that lacks it: a packet that carries it, an
-- announcement in the first's queue, a packet that announces it, an entry by which the second wants it from the first,
-- or a packet by which the second asks the first for it.
pub data IsUnderWay {N : Type 0} (content : N → Content) (sent : List (Packet N)) (flight : List ℕ) (id : MsgId) (name peer : Name) (one other : CoreState) :
    Type 0 where
  Carried : IsInFlight content sent flight (CarriesIt id) name peer → IsUnderWay content sent flight id name peer one other
  Queued : IsQueued one id peer → IsUnderWay content sent flight id name peer one other
  Announced : IsInFlight content sent flight (AnnouncesIt id) name peer → IsUnderWay content sent flight id name peer one other
  Wanted : IsWanted other id name → IsUnderWay content sent flight id name peer one other
  Asked : IsInFlight content sent flight (AsksForIt id) peer name → IsUnderWay content sent flight id name peer one other

-- For every two running nodes that are active members of one another, where the first has the message and the second
-- lacks it, something is under way. Links of one side alone are left out, so that a step needs no case for them.
abbrev pub IsCarriedOn : {C N : Type 0} → (C → CoreState) → (N → Content) → Group C N → MsgId → Type 0
IsCarriedOn {C} state content group id =
    (name peer : Name)
    (one other : C) →
    Runs group name one →
    Runs group peer other →
    has_name (state one).active peer ≡ true →
    has_name (state other).active name ≡ true →
    (state one).has id ≡ true →
    (state other).has id ≡ false →
    IsUnderWay content group.sent group.flight id name peer (state one) (state other)
