-- How the queued announcements are cut into frames.
use Rattle.std.specs.Prelude.{ℕ, zero, suc, ◌+◌, ◌/◌, ◌-◌, List, [], ◌∷◌, take, drop, length, map}
use Rattle.std.specs.List.{flat_map}
use Rattle.node_names.specs.NodeName.{Name}
use Rattle.node_names.specs.declared.ids.MsgId.{MsgId}
use Rattle.frames.specs.Body.{Body}
use Rattle.frames.specs.declared.TheConstants.{MAX_ANNOUNCEMENTS}
use Rattle.frames.specs.declared.body.BodyOf.TheVariants.{IHave}
use Rattle.peer_sets.specs.Queue.{batches}

-- the given number of frames, each with the next entries, as many as fit into a frame
abbrev pub frames_of : ℕ → List (MsgId × ℕ) → List (List (MsgId × ℕ))
frames_of zero entries = []
frames_of (suc n) entries = take MAX_ANNOUNCEMENTS entries ∷ frames_of n (drop MAX_ANNOUNCEMENTS entries)

-- the entries in as few frames as possible, all full except the last
abbrev pub in_frames : List (MsgId × ℕ) → List (List (MsgId × ℕ))
in_frames entries = frames_of ((length entries + (MAX_ANNOUNCEMENTS - 1)) / MAX_ANNOUNCEMENTS) entries

-- the packets that announce everything queued for one peer
abbrev pub packets_to : Name × List (MsgId × ℕ) → List (Name × Body)
packets_to batch = map (λ entries. (batch.0, IHave entries)) (in_frames batch.1)

-- the packets that announce everything in the queue, peer by peer
abbrev pub announcements : List (Name × MsgId × ℕ) → List (Name × Body)
announcements queued = flat_map packets_to (batches queued)
