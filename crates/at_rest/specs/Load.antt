-- What is left to do in a group of nodes, as a number that each event of its settling makes smaller. It counts frames
-- by their kinds, so only groups of Plumtree nodes are settled.
use Rattle.std.specs.Prelude.{◌+◌, ◌*◌, ℕ, not, List, [], ◌∷◌, ◌++◌, Option, Some, None, count_by, is_some, length, reverse, slice_get}
use Rattle.std.specs.List.{sum_by}
use Rattle.node_names.specs.NodeName.{Name}
use Rattle.node_names.specs.declared.ids.Incarnation.{Incarnation}
use Rattle.node_names.specs.declared.ids.MsgId.{MsgId}
use Rattle.protocol.specs.CoreState.{CoreState}
use Rattle.world.specs.Entry.{Entry}
use Rattle.world.specs.Event.{Event}
use Rattle.world.specs.Group.{Group, Logged, core_of}
use Rattle.world.specs.History.{broadcasts_of, incarnation_of}
use Rattle.world.specs.declared.event.EventOf.TheVariants.{Start, Broadcast, Arrive, Lose, Again, Fire, Flush, Down, Shuffle, Join, Stop}
use Rattle.world.specs.declared.packet.Packet.{Packet}
use Rattle.frames.specs.Body.{Body}
use Rattle.frames.specs.Frame.{Frame}
use Rattle.frames.specs.declared.body.BodyOf.TheVariants as body
use Rattle.node_core.specs.Plum.{Plum, plum_state}

-- the load of a packet: 3 for a message, 7 for each announcement, 4 for a request, and 1 for a packet that makes its
-- sender eager or lazy
abbrev pub body_load : Body → ℕ
body_load (body.Gossip id round payload) = 3
body_load (body.IHave entries) = 7 * length entries
body_load (body.Graft id round) = 4
body_load body.Prune = 1
body_load body.GraftPeer = 1
body_load body.Join = 0
body_load (body.ForwardJoin new ttl) = 0
body_load (body.Neighbor high) = 0
body_load (body.NeighborReply accepted) = 0
body_load body.Disconnect = 0
body_load (body.Shuffle origin ttl names) = 0
body_load (body.ShuffleReply names) = 0

-- the load of a packet that may have been sent
abbrev pub packet_load : Option (Packet Frame) → ℕ
packet_load None = 0
packet_load (Some packet) = body_load packet.note.body

-- the message that an event broadcasts, after this past
abbrev pub said_under : Name → ℕ → Option Incarnation → List MsgId
said_under name broadcasts None = []
said_under name broadcasts (Some incarnation) = record { origin = record { name = name; incarnation = incarnation }; seq = broadcasts + 1 } ∷ []

abbrev pub said_by : Event → List Entry → List MsgId
said_by (Broadcast name payload) past = said_under name (broadcasts_of name past) (incarnation_of name past)
said_by (Start name incarnation peers contact) past = []
said_by (Arrive place dice) past = []
said_by (Lose place) past = []
said_by (Again number) past = []
said_by (Fire name id) past = []
said_by (Flush name) past = []
said_by (Down name peer dice) past = []
said_by (Shuffle name dice) past = []
said_by (Join name contact) past = []
said_by (Stop name) past = []

-- all messages that were broadcast in a history; a history is a log's entries, the newest first
abbrev pub said_ids : List Entry → List MsgId
said_ids [] = []
said_ids (entry ∷ past) = said_by entry.event past ++ said_ids past

-- how many of these messages the core lacks
abbrev pub lacked : List MsgId → CoreState → ℕ
lacked said core = count_by (λ id. not (core.has id)) said

-- to how many running nodes the core is linked
abbrev pub links : Group Plum Frame → CoreState → ℕ
links group core = count_by (λ name. is_some (core_of name group.nodes)) core.active

-- what waits at a core: 8 for each queued announcement, 5 for each received announcement that was not yet asked for,
-- and 1 for each timer
abbrev pub waiting : CoreState → ℕ
waiting core = 8 * length core.queued + 5 * length core.wants + length core.timers

-- the load of a core: 9 for each pair of a link and a message that it lacks, and what waits
abbrev pub core_load : List MsgId → Group Plum Frame → Option Plum → ℕ
core_load said group None = 0
core_load said group (Some core) = 9 * (links group (plum_state core) * lacked said (plum_state core)) + waiting (plum_state core)

-- the load of all packets in flight
abbrev pub flying_load : Group Plum Frame → ℕ
flying_load group = sum_by (λ number. packet_load (slice_get group.sent number)) group.flight

-- the load of a group in which these messages were broadcast
abbrev pub load : List MsgId → Group Plum Frame → ℕ
load said group = sum_by (λ node. core_load said group node.core) group.nodes + flying_load group

-- the load of a group with the messages that were broadcast in its log
abbrev pub load_of : Logged Plum Frame → ℕ
load_of world = load (said_ids (reverse world.log)) world.group
