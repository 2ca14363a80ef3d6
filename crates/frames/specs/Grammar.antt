-- The format of frames: which bytes spell a frame.
use Rattle.std.specs.Prelude.{◌≡◌, ℕ, ◌≤◌, List, [], ◌∷◌, ◌++◌, length}
use Rattle.std.specs.List.{AllByRecursion}
use Rattle.std.specs.Int.{w32, to_be_bytes}
use Rattle.frames.specs.declared.TheConstants.{MAX_BODY}
use Rattle.frames.specs.declared.body.BodyOf.TheVariants.{Join, ForwardJoin, Neighbor, NeighborReply, Disconnect}
use Rattle.frames.specs.declared.body.BodyOf.TheVariants.{Shuffle, ShuffleReply, Gossip, IHave, Graft, Prune, GraftPeer}
use Rattle.frames.specs.Body.{Body}
use Rattle.frames.specs.Field.{Field, octets, Holds}
use Rattle.frames.specs.Field.Field.{byte, flag, round, number, name, origin, id, names, payload, announcements}
use Rattle.frames.specs.Frame.{Frame}
use Rattle.frames.specs.Kind.{kind_of, number_of, version_of}

-- The fields of each kind, in their order.
abbrev pub fields_of : Body → List Field
fields_of Join = []
fields_of (ForwardJoin new ttl) = name new ∷ byte ttl ∷ []
fields_of (Neighbor high) = flag high ∷ []
fields_of (NeighborReply accepted) = flag accepted ∷ []
fields_of Disconnect = []
fields_of (Shuffle from ttl ns) = name from ∷ byte ttl ∷ names ns ∷ []
fields_of (ShuffleReply ns) = names ns ∷ []
fields_of (Gossip i r bytes) = id i ∷ round r ∷ payload bytes ∷ []
fields_of (IHave entries) = announcements entries ∷ []
fields_of (Graft i r) = id i ∷ round r ∷ []
fields_of Prune = []
fields_of GraftPeer = []

-- All fields of a frame: the version, the kind, the sender, the frame's number, and the fields of its kind.
abbrev pub layout : Frame → List Field
layout f =
    byte (version_of (kind_of f.body)) ∷ byte (number_of (kind_of f.body)) ∷ origin f.sender ∷ number f.number ∷ fields_of f.body

-- the bytes of fields, one after the other
abbrev pub spelled : List Field → List ℕ
spelled [] = []
spelled (f ∷ fs) = octets f ++ spelled fs

-- The bytes spell the frame: four bytes of length, and then the body, which is its fields.
pub record IsSpelling (frame : Frame) (bytes : List ℕ) : Type 0 where
  pub fields : AllByRecursion Holds (layout frame)
  pub short : length (spelled (layout frame)) ≤ MAX_BODY
  pub parts : bytes ≡ to_be_bytes w32 (length (spelled (layout frame))) ++ spelled (layout frame)
