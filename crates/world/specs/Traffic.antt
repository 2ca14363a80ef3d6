-- How often a message crosses a link: what was sent about it from one node to another, from the beginning on.
use Rattle.std.specs.Prelude.{◌⊎◌, ◌≤◌, ◌&&◌, ℕ, Bool, List, [], ◌∷◌, Option, Some, None, false, count_by, if◌then◌else◌}
use Rattle.std.specs.List.{sum_by}
use Rattle.node_names.specs.NodeName.{Name}
use Rattle.node_names.specs.Same.{same_id, same_name}
use Rattle.node_names.specs.declared.ids.MsgId.{MsgId}
use Rattle.protocol.specs.Content.{Content}
use Rattle.protocol.specs.SpreadLaw.{is_carried}
use Rattle.world.specs.Entry.{Entry}
use Rattle.world.specs.Event.{Event}
use Rattle.world.specs.Rest.{IsSaying}
use Rattle.world.specs.declared.event.EventOf.TheVariants.{Start, Broadcast, Arrive, Lose, Again, Fire, Flush, Down, Shuffle, Join, Stop}
use Rattle.world.specs.declared.packet.Packet.{Packet}

-- whether the packet went from the one name to the other
abbrev pub goes : {N : Type 0} → Name → Name → Packet N → Bool
goes from to packet = same_name from packet.sender.name && same_name to packet.to

-- whether a packet that asks for this id, if for any, asks for the message
abbrev pub is_asked : MsgId → Option MsgId → Bool
is_asked id None = false
is_asked id (Some asked) = same_id id asked

-- how many of these entries announce the message
abbrev pub entries_announced : MsgId → List (MsgId × ℕ) → ℕ
entries_announced id entries = count_by (λ entry. same_id id entry.0) entries

-- how many packets from the one name to the other carry the message
abbrev pub copies : {N : Type 0} → (N → Content) → MsgId → Name → Name → List (Packet N) → ℕ
copies content id from to sent = count_by (λ packet. goes from to packet && is_carried id (content packet.note).carried) sent

-- how many entries in packets from the one name to the other announce the message
abbrev pub announcements_of : {N : Type 0} → (N → Content) → MsgId → Name → Name → List (Packet N) → ℕ
announcements_of content id from to sent = sum_by (λ packet. if goes from to packet then entries_announced id (content packet.note).announced else 0) sent

-- how many packets from the one name to the other ask for the message
abbrev pub requests : {N : Type 0} → (N → Content) → MsgId → Name → Name → List (Packet N) → ℕ
requests content id from to sent = count_by (λ packet. goes from to packet && is_asked id (content packet.note).asked) sent

-- The message was sent from the name to its peer at most once, it was announced to the peer at most once, and the peer
-- asked the name for it at most once.
pub record CrossesOnce {N : Type 0} (content : N → Content) (sent : List (Packet N)) (id : MsgId) (name peer : Name) : Type 0 where
  pub one_copy : copies content id name peer sent ≤ 1
  pub one_announcement : announcements_of content id name peer sent ≤ 1
  pub one_request : requests content id peer name sent ≤ 1

-- The event puts no packet into flight a second time.
abbrev pub IsNoRepeat : Event → Type 0
IsNoRepeat (Again number) = ⊥
IsNoRepeat (Start name incarnation peers contact) = Unit {0}
IsNoRepeat (Broadcast name payload) = Unit {0}
IsNoRepeat (Arrive place dice) = Unit {0}
IsNoRepeat (Lose place) = Unit {0}
IsNoRepeat (Fire name id) = Unit {0}
IsNoRepeat (Flush name) = Unit {0}
IsNoRepeat (Down name peer dice) = Unit {0}
IsNoRepeat (Shuffle name dice) = Unit {0}
IsNoRepeat (Join name contact) = Unit {0}
IsNoRepeat (Stop name) = Unit {0}

-- One event says the message, and no later one repeats a packet: a node would answer a repeated request a second time.
abbrev pub IsUnrepeated : List Entry → MsgId → Type 0
IsUnrepeated [] id = ⊥
IsUnrepeated (entry ∷ past) id = IsSaying entry.event past id ⊎ (IsNoRepeat entry.event × IsUnrepeated past id)
