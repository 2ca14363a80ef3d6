-- The fields of a frame: the values that each may hold, and their encodings.
use Rattle.std.specs.Prelude.{ℕ, ◌<◌, ◌≤◌, ◌^◌, Bool, List, [], ◌∷◌, ◌++◌, length, if◌then◌else◌}
use Rattle.std.specs.List.{flat_map, AllByRecursion}
use Rattle.std.specs.Int.{w16, w32, w64, to_be_bytes}
use Rattle.node_names.specs.NodeName.{Name, IsNodeName}
use Rattle.node_names.specs.declared.ids.Origin.{Origin}
use Rattle.node_names.specs.declared.ids.MsgId.{MsgId}
use Rattle.protocol.specs.declared.TheConstants.{MAX_PAYLOAD}
use Rattle.frames.specs.declared.TheConstants.{MAX_NAMES, MAX_ANNOUNCEMENTS}

-- A field with its value.
pub data Field : Type 0 where
  byte : ℕ → Field
  flag : Bool → Field
  round : ℕ → Field
  number : ℕ → Field
  name : Name → Field
  origin : Origin → Field
  id : MsgId → Field
  names : List Name → Field
  payload : List ℕ → Field
  announcements : List (MsgId × ℕ) → Field

-- the length in one byte, then the name
abbrev pub name_octets : Name → List ℕ
name_octets n = length n ∷ n

-- a name, then an incarnation
abbrev pub origin_octets : Origin → List ℕ
origin_octets o = name_octets o.name ++ to_be_bytes w64 o.incarnation.0

-- the origin, then the number of the message
abbrev pub id_octets : MsgId → List ℕ
id_octets i = origin_octets i.origin ++ to_be_bytes w64 i.seq

-- an id, then a round
abbrev pub announcement_octets : MsgId × ℕ → List ℕ
announcement_octets a = id_octets a.0 ++ to_be_bytes w32 a.1

-- The bytes of a field. Numbers are big-endian. A list or a payload begins with its length: a list of names in one
-- byte, one of announcements in two, a payload in four.
abbrev pub octets : Field → List ℕ
octets (byte n) = n ∷ []
octets (flag b) = (if b then 1 else 0) ∷ []
octets (round n) = to_be_bytes w32 n
octets (number n) = to_be_bytes w64 n
octets (name n) = name_octets n
octets (origin o) = origin_octets o
octets (id i) = id_octets i
octets (names ns) = length ns ∷ flat_map name_octets ns
octets (payload bytes) = to_be_bytes w32 (length bytes) ++ bytes
octets (announcements as') = to_be_bytes w16 (length as') ++ flat_map announcement_octets as'

-- A number of a message or of a frame counts from 1.
pub record IsNumber (n : ℕ) : Type 0 where
  pub positive : 0 < n
  pub short : n < 2 ^ 64

-- An origin is a run of a node.
pub record IsOrigin (o : Origin) : Type 0 where
  pub name : IsNodeName o.name
  pub incarnation : o.incarnation.0 < 2 ^ 64

-- An id is an origin and the number of one of its messages.
pub record IsId (i : MsgId) : Type 0 where
  pub origin : IsOrigin i.origin
  pub seq : IsNumber i.seq

-- An announcement is an id and a round.
pub record IsAnnouncement (a : MsgId × ℕ) : Type 0 where
  pub id : IsId a.0
  pub round : a.1 < 2 ^ 32

-- The values that a field may hold.
abbrev pub Holds : Field → Type 0
Holds (byte n) = n < 256
Holds (flag b) = Unit {0}
Holds (round n) = n < 2 ^ 32
Holds (number n) = IsNumber n
Holds (name n) = IsNodeName n
Holds (origin o) = IsOrigin o
Holds (id i) = IsId i
Holds (names ns) = (length ns ≤ MAX_NAMES) × AllByRecursion IsNodeName ns
Holds (payload bytes) = length bytes ≤ MAX_PAYLOAD
Holds (announcements as') = (1 ≤ length as') × (length as' ≤ MAX_ANNOUNCEMENTS) × AllByRecursion IsAnnouncement as'
