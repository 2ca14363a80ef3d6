-- The content of a frame, in terms that do not depend on the frame format: the content of a packet.
use Rattle.std.specs.Prelude.{ℕ, true, false, List, [], Option, Some, None}
use Rattle.node_names.specs.declared.ids.MsgId.{MsgId}
use Rattle.protocol.specs.Content.{Content}
use Rattle.frames.specs.declared.body.BodyOf.TheVariants.{Join, ForwardJoin, Neighbor, NeighborReply, Disconnect}
use Rattle.frames.specs.declared.body.BodyOf.TheVariants.{Shuffle, ShuffleReply, Gossip, IHave, Graft, Prune, GraftPeer}
use Rattle.frames.specs.Body.{Body}
use Rattle.frames.specs.Frame.{Frame}

-- the content of a frame about membership
abbrev pub membership : Content
membership = record { carried = None; announced = []; asked = None; is_membership = true }

-- the content of a frame about messages: what it carries, announces and asks for
abbrev pub broadcast : Option (MsgId × List ℕ) → List (MsgId × ℕ) → Option MsgId → Content
broadcast carried announced asked = record { carried = carried; announced = announced; asked = asked; is_membership = false }

-- the content of a body, by kind
abbrev pub body_content : Body → Content
body_content Join = membership
body_content (ForwardJoin new ttl) = membership
body_content (Neighbor high) = membership
body_content (NeighborReply accepted) = membership
body_content Disconnect = membership
body_content (Shuffle origin ttl names) = membership
body_content (ShuffleReply names) = membership
body_content (Gossip id round payload) = broadcast (Some (id, payload)) [] None
body_content (IHave entries) = broadcast None entries None
body_content (Graft id round) = broadcast None [] (Some id)
body_content Prune = broadcast None [] None
body_content GraftPeer = broadcast None [] None

-- the content of a frame
abbrev pub frame_content : Frame → Content
frame_content frame = body_content frame.body
