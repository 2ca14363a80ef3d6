-- The parts of a body besides its kind, each by itself: None, empty or false if its kind has no such part.
use Rattle.std.specs.Prelude.{ℕ, Bool, false, List, [], Option, Some, None}
use Rattle.node_names.specs.NodeName.{Name}
use Rattle.node_names.specs.declared.ids.MsgId.{MsgId}
use Rattle.frames.specs.Body.{Body}
use Rattle.frames.specs.Kind.{kind_of, number_of}
use Rattle.frames.specs.declared.body.BodyOf.TheVariants.{Join, ForwardJoin, Neighbor, NeighborReply, Disconnect}
use Rattle.frames.specs.declared.body.BodyOf.TheVariants.{Shuffle, ShuffleReply, Gossip, IHave, Graft, Prune, GraftPeer}

-- the number of the body's kind
abbrev pub kind_number : Body → ℕ
kind_number body = number_of (kind_of body)

-- the flag of Neighbor and NeighborReply
abbrev pub flag_of : Body → Bool
flag_of Join = false
flag_of (ForwardJoin new ttl) = false
flag_of (Neighbor high) = high
flag_of (NeighborReply accepted) = accepted
flag_of Disconnect = false
flag_of (Shuffle origin ttl names) = false
flag_of (ShuffleReply names) = false
flag_of (Gossip id round payload) = false
flag_of (IHave entries) = false
flag_of (Graft id round) = false
flag_of Prune = false
flag_of GraftPeer = false

-- the name that is carried on a random walk, with the steps left
abbrev pub walk_of : Body → Option (Name × ℕ)
walk_of Join = None
walk_of (ForwardJoin new ttl) = Some (new, ttl)
walk_of (Neighbor high) = None
walk_of (NeighborReply accepted) = None
walk_of Disconnect = None
walk_of (Shuffle origin ttl names) = Some (origin, ttl)
walk_of (ShuffleReply names) = None
walk_of (Gossip id round payload) = None
walk_of (IHave entries) = None
walk_of (Graft id round) = None
walk_of Prune = None
walk_of GraftPeer = None

-- the message that is carried or asked for, with its round
abbrev pub message_of : Body → Option (MsgId × ℕ)
message_of Join = None
message_of (ForwardJoin new ttl) = None
message_of (Neighbor high) = None
message_of (NeighborReply accepted) = None
message_of Disconnect = None
message_of (Shuffle origin ttl names) = None
message_of (ShuffleReply names) = None
message_of (Gossip id round payload) = Some (id, round)
message_of (IHave entries) = None
message_of (Graft id round) = Some (id, round)
message_of Prune = None
message_of GraftPeer = None

-- the list of names
abbrev pub names_of : Body → List Name
names_of Join = []
names_of (ForwardJoin new ttl) = []
names_of (Neighbor high) = []
names_of (NeighborReply accepted) = []
names_of Disconnect = []
names_of (Shuffle origin ttl names) = names
names_of (ShuffleReply names) = names
names_of (Gossip id round payload) = []
names_of (IHave entries) = []
names_of (Graft id round) = []
names_of Prune = []
names_of GraftPeer = []

-- the announcements
abbrev pub entries_of : Body → List (MsgId × ℕ)
entries_of Join = []
entries_of (ForwardJoin new ttl) = []
entries_of (Neighbor high) = []
entries_of (NeighborReply accepted) = []
entries_of Disconnect = []
entries_of (Shuffle origin ttl names) = []
entries_of (ShuffleReply names) = []
entries_of (Gossip id round payload) = []
entries_of (IHave entries) = entries
entries_of (Graft id round) = []
entries_of Prune = []
entries_of GraftPeer = []

-- the payload
abbrev pub payload_of : Body → List ℕ
payload_of Join = []
payload_of (ForwardJoin new ttl) = []
payload_of (Neighbor high) = []
payload_of (NeighborReply accepted) = []
payload_of Disconnect = []
payload_of (Shuffle origin ttl names) = []
payload_of (ShuffleReply names) = []
payload_of (Gossip id round payload) = payload
payload_of (IHave entries) = []
payload_of (Graft id round) = []
payload_of Prune = []
payload_of GraftPeer = []
