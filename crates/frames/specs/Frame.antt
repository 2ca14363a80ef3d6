-- A frame as the definitions see it, and what a frame may hold.
use Rattle.std.specs.Prelude.{ℕ, ◌<◌, Bool, true, IsTrue, ◌&&◌, List, length, Option, Some, None, nat_lt, nat_le, if◌then◌else◌}
use Rattle.std.specs.List.{list_all}
use Rattle.node_names.specs.declared.ids.Origin.{Origin}
use Rattle.node_names.specs.declared.ids.MsgId.{MsgId}
use Rattle.protocol.specs.declared.TheConstants.{MAX_PAYLOAD}
use Rattle.frames.specs.declared.TheConstants.{MAX_NAMES, MAX_ANNOUNCEMENTS}
use Rattle.frames.specs.declared.body.BodyOf.TheVariants.{Join, ForwardJoin, Neighbor, NeighborReply, Disconnect}
use Rattle.frames.specs.declared.body.BodyOf.TheVariants.{Shuffle, ShuffleReply, Gossip, IHave, Graft, Prune, GraftPeer}
use Rattle.frames.specs.declared.fault.FrameFault.{FrameFault}
use Rattle.frames.specs.declared.fault.FrameFault.TheVariants.{BadField, BadCount}
use Rattle.frames.specs.Body.{Body}

-- A frame: which run of which node sent it, its number among the frames of that run, and what it says.
pub record Frame : Type 0 where
  pub sender : Origin
  pub number : ℕ
  pub body : Body

-- whether the numbers of all announced messages count from 1
abbrev pub are_numbered : List (MsgId × ℕ) → Bool
are_numbered entries = list_all (λ (entry : MsgId × ℕ). nat_lt 0 entry.0.seq) entries

-- Whether the numbers of messages count from 1 and a payload has at most MAX_PAYLOAD bytes.
abbrev pub has_good_fields : Body → Bool
has_good_fields Join = true
has_good_fields (ForwardJoin new ttl) = true
has_good_fields (Neighbor high) = true
has_good_fields (NeighborReply accepted) = true
has_good_fields Disconnect = true
has_good_fields (Shuffle origin ttl names) = true
has_good_fields (ShuffleReply names) = true
has_good_fields (Gossip id round payload) = nat_lt 0 id.seq && nat_le (length payload) MAX_PAYLOAD
has_good_fields (IHave entries) = are_numbered entries
has_good_fields (Graft id round) = nat_lt 0 id.seq
has_good_fields Prune = true
has_good_fields GraftPeer = true

-- Whether a list of names has at most 8 items, and one of announcements 1 to 64.
abbrev pub has_good_counts : Body → Bool
has_good_counts Join = true
has_good_counts (ForwardJoin new ttl) = true
has_good_counts (Neighbor high) = true
has_good_counts (NeighborReply accepted) = true
has_good_counts Disconnect = true
has_good_counts (Shuffle origin ttl names) = nat_le (length names) MAX_NAMES
has_good_counts (ShuffleReply names) = nat_le (length names) MAX_NAMES
has_good_counts (Gossip id round payload) = true
has_good_counts (IHave entries) = nat_lt 0 (length entries) && nat_le (length entries) MAX_ANNOUNCEMENTS
has_good_counts (Graft id round) = true
has_good_counts Prune = true
has_good_counts GraftPeer = true

-- The invariant of frames: the number counts from 1, and fields and counts are within their limits.
pub record IsFrame (frame : Frame) : Type 0 where
  pub numbered : 0 < frame.number
  pub fields : IsTrue (has_good_fields frame.body)
  pub counts : IsTrue (has_good_counts frame.body)

-- The reason why no frame has this number and body, or None if one has. Fields are checked before counts.
abbrev pub refusal : ℕ → Body → Option FrameFault
refusal number body =
    if nat_lt 0 number && has_good_fields body
    then (if has_good_counts body then None else Some BadCount)
    else Some BadField
