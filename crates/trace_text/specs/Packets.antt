-- How packets are printed.
use Rattle.std.specs.Prelude.{ℕ, ◌+◌, Bool, true, false, List, [], ◌∷◌, ◌++◌, Option, Some, None, codes, length, slice_get}
use Rattle.std.specs.Fmt.{decimal}
use Rattle.std.specs.Option.{option_map_or}
use Rattle.node_names.specs.Ids.{origin_text, msg_id_text}
use Rattle.node_names.specs.declared.ids.MsgId.{MsgId}
use Rattle.world.specs.declared.packet.Packet.{Packet}
use Rattle.frames.specs.Body.{Body}
use Rattle.frames.specs.Frame.{Frame}
use Rattle.frames.specs.declared.body.BodyOf.TheVariants.{Join, ForwardJoin, Neighbor, NeighborReply, Disconnect}
use Rattle.frames.specs.declared.body.BodyOf.TheVariants.{Shuffle, ShuffleReply, Gossip, IHave, Graft, Prune, GraftPeer}
use Rattle.trace_text.specs.Names.{names_text}

-- an announcement: the id and its round
abbrev pub announcement_text : MsgId → ℕ → List ℕ
announcement_text id round = msg_id_text id ++ (codes "@" ++ decimal round)

-- an announcement after a space
abbrev pub announcement_item : MsgId × ℕ → List ℕ
announcement_item entry = codes " " ++ announcement_text entry.0 entry.1

-- announcements, in their order
abbrev pub announcement_items : List (MsgId × ℕ) → List ℕ
announcement_items [] = []
announcement_items (entry ∷ entries) = announcement_item entry ++ announcement_items entries

-- a priority as a word
abbrev pub priority_word : Bool → List ℕ
priority_word true = codes "high"
priority_word false = codes "low"

-- an answer as a word
abbrev pub reply_word : Bool → List ℕ
reply_word true = codes "accepted"
reply_word false = codes "refused"

-- a message that is carried, by the length of its payload
abbrev pub gossip_text : MsgId → ℕ → ℕ → List ℕ
gossip_text id round size = codes "GOSSIP " ++ (msg_id_text id ++ (codes " round " ++ (decimal round ++ (codes " length " ++ decimal size))))

-- the contents of a frame: its kind and its fields
abbrev pub body_text : Body → List ℕ
body_text Join = codes "JOIN"
body_text (ForwardJoin new ttl) = codes "FORWARDJOIN " ++ (new ++ (codes " ttl " ++ decimal ttl))
body_text (Neighbor high) = codes "NEIGHBOR " ++ priority_word high
body_text (NeighborReply accepted) = codes "NEIGHBORREPLY " ++ reply_word accepted
body_text Disconnect = codes "DISCONNECT"
body_text (Shuffle origin ttl names) = codes "SHUFFLE of " ++ (origin ++ (codes " ttl " ++ (decimal ttl ++ (codes " names" ++ names_text names))))
body_text (ShuffleReply names) = codes "SHUFFLEREPLY names" ++ names_text names
body_text (Gossip id round payload) = gossip_text id round (length payload)
body_text (IHave entries) = codes "IHAVE" ++ announcement_items entries
body_text (Graft id round) = codes "GRAFT " ++ (msg_id_text id ++ (codes " round " ++ decimal round))
body_text Prune = codes "PRUNE"
body_text GraftPeer = codes "GRAFT_PEER"

-- a packet: its place among all packets ever sent, the run that sent it, its receiver, the number of its frame, and its
-- contents
abbrev pub packet_text : ℕ → Packet Frame → List ℕ
packet_text place packet =
    codes "packet " ++ (decimal place ++ (codes " " ++ (origin_text packet.sender
    ++ (codes " -> " ++ (packet.to ++ (codes " #" ++ (decimal packet.note.number ++ (codes " " ++ body_text packet.note.body))))))))

-- a packet after a space
abbrev pub packet_item : ℕ → Packet Frame → List ℕ
packet_item place packet = codes " " ++ packet_text place packet

-- a space and the packet at a place among all packets ever sent; nothing if there is no place or no packet
abbrev pub packet_at : List (Packet Frame) → Option ℕ → List ℕ
packet_at sent None = []
packet_at sent (Some place) = option_map_or (λ (packet : Packet Frame). packet_item place packet) (slice_get sent place) []

-- the line of a packet that an event sent
abbrev pub sent_line : ℕ → Packet Frame → List ℕ
sent_line place packet = codes "  " ++ (packet_text place packet ++ codes "\n")

-- the lines of packets, each once and in their order; `first` is the place of the first one among all packets ever sent
abbrev pub sent_lines : ℕ → List (Packet Frame) → List ℕ
sent_lines first [] = []
sent_lines first (packet ∷ packets) = sent_line first packet ++ sent_lines (first + 1) packets
