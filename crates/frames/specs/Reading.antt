-- Reading a frame from left to right, up to the first fault. This defines the order of the faults.
use Rattle.std.specs.Prelude.{ℕ, zero, suc, ◌+◌, Bool, ◌&&◌, ◌||◌, List, [], ◌∷◌, length, take, drop}
use Rattle.std.specs.Prelude.{Option, Some, None, Result, Ok, Err, nat_lt, nat_le, ◌==◌, if◌then◌else◌}
use Rattle.std.specs.List.{list_all}
use Rattle.std.specs.Int.{Width, w16, w32, w64, byte_len, from_be_bytes}
use Rattle.node_names.specs.NodeName.{Name, is_name_byte}
use Rattle.node_names.specs.declared.ids.Origin.{Origin}
use Rattle.node_names.specs.declared.ids.MsgId.{MsgId}
use Rattle.protocol.specs.declared.TheConstants.{MAX_PAYLOAD}
use Rattle.frames.specs.declared.TheConstants.{MAX_BODY, MAX_NAMES, MAX_ANNOUNCEMENTS}
use Rattle.frames.specs.declared.body.BodyOf.TheVariants as body
use Rattle.frames.specs.declared.fault.FrameFault.{FrameFault}
use Rattle.frames.specs.declared.fault.FrameFault.TheVariants.{Short, TooLong, BadVersion, BadKind, BadName, BadField, BadCount, Trailing}
use Rattle.frames.specs.declared.body.Kind.{Kind}
use Rattle.frames.specs.declared.body.Kind.TheVariants.{Join, ForwardJoin, Neighbor, NeighborReply, Disconnect}
use Rattle.frames.specs.declared.body.Kind.TheVariants.{Shuffle, ShuffleReply, Gossip, IHave, Graft, Prune, GraftPeer}
use Rattle.frames.specs.Body.{Body}
use Rattle.frames.specs.Frame.{Frame}
use Rattle.frames.specs.Kind.{kind_numbered, of_version}

-- What reading from the front of the bytes gives: a value and the bytes after it, or a fault.
abbrev pub Reader : Type 0 → Type 0
Reader A = List ℕ → Result (A × List ℕ) FrameFault

-- reads on after a value, and stops at a fault
abbrev pub go_on : {A B : Type 0} → (A → Reader B) → Result (A × List ℕ) FrameFault → Result (B × List ℕ) FrameFault
go_on f (Ok x) = f x.0 x.1
go_on f (Err fault) = Err fault

-- reads a value, and then what depends on it
infixl 10 ◌>>=◌
abbrev pub ◌>>=◌ : {A B : Type 0} → Reader A → (A → Reader B) → Reader B
(r >>= f) bytes = go_on f (r bytes)

-- reads nothing more
abbrev pub done : {A : Type 0} → A → Reader A
done x bytes = Ok (x, bytes)

-- the fault, unless the test holds; reads nothing
abbrev pub judge : Bool → FrameFault → Reader (Unit {0})
judge good fault bytes = if good then Ok (tt, bytes) else Err fault

-- the first n bytes
abbrev pub octets : ℕ → Reader (List ℕ)
octets n bytes = if nat_lt (length bytes) n then Err BadField else Ok (take n bytes, drop n bytes)

-- a big-endian number of this width
unfoldable pub word : Width → Reader ℕ
word w = do
  bytes ← octets (byte_len w)
  done (from_be_bytes w bytes)

unfoldable pub byte : Reader ℕ
byte [] = Err BadField
byte (b ∷ rest) = Ok (b, rest)

unfoldable pub flag : Reader Bool
flag = do
  b ← byte
  _ ← judge (nat_le b 1) BadField
  done (b == 1)

-- A name: its length is checked before its bytes are read, and its alphabet afterwards.
unfoldable pub name : Reader Name
name = do
  len ← byte
  _ ← judge (nat_le 1 len && nat_le len 32) BadName
  bytes ← octets len
  _ ← judge (list_all is_name_byte bytes) BadName
  done bytes

-- a number that counts from 1
unfoldable pub number : Reader ℕ
number = do
  n ← word w64
  _ ← judge (nat_lt 0 n) BadField
  done n

unfoldable pub origin : Reader Origin
origin = do
  n ← name
  i ← word w64
  done (record { name = n; incarnation = record { 0 = i } })

unfoldable pub id : Reader MsgId
id = do
  o ← origin
  seq ← number
  done (record { origin = o; seq = seq })

-- n items, each read by the same reader
unfoldable pub times : {A : Type 0} → ℕ → Reader A → Reader (List A)
times zero r = done []
times (suc n) r = do
  first ← r
  others ← times n r
  done (first ∷ others)

unfoldable pub names : Reader (List Name)
names = do
  count ← byte
  _ ← judge (nat_le count MAX_NAMES) BadCount
  times count name

unfoldable pub payload : Reader (List ℕ)
payload = do
  len ← word w32
  _ ← judge (nat_le len MAX_PAYLOAD) BadField
  octets len

unfoldable pub announcement : Reader (MsgId × ℕ)
announcement = do
  i ← id
  round ← word w32
  done (i, round)

unfoldable pub announcements : Reader (List (MsgId × ℕ))
announcements = do
  count ← word w16
  _ ← judge (nat_le 1 count && nat_le count MAX_ANNOUNCEMENTS) BadCount
  times count announcement

unfoldable pub version : Reader ℕ
version = do
  v ← byte
  _ ← judge (v == 1 || v == 2) BadVersion
  done v

-- the kind, or BadKind if there is none
abbrev pub known : Option Kind → Reader Kind
known (Some k) = done k
known None = λ bytes. Err BadKind

-- a kind of this version
unfoldable pub kind : ℕ → Reader Kind
kind v = do
  n ← byte
  known (of_version v (kind_numbered n))

-- The fields of each kind, in their order.
unfoldable pub fields : Kind → Reader Body
fields Join = done body.Join
fields ForwardJoin = do
  new ← name
  ttl ← byte
  done (body.ForwardJoin new ttl)
fields Neighbor = do
  high ← flag
  done (body.Neighbor high)
fields NeighborReply = do
  accepted ← flag
  done (body.NeighborReply accepted)
fields Disconnect = done body.Disconnect
fields Shuffle = do
  from ← name
  ttl ← byte
  ns ← names
  done (body.Shuffle from ttl ns)
fields ShuffleReply = do
  ns ← names
  done (body.ShuffleReply ns)
fields Gossip = do
  i ← id
  round ← word w32
  bytes ← payload
  done (body.Gossip i round bytes)
fields IHave = do
  entries ← announcements
  done (body.IHave entries)
fields Graft = do
  i ← id
  round ← word w32
  done (body.Graft i round)
fields Prune = done body.Prune
fields GraftPeer = done body.GraftPeer

-- the end of the bytes, or Trailing if any are left
unfoldable pub end : Reader (Unit {0})
end [] = Ok (tt, [])
end (b ∷ rest) = Err Trailing

-- what is read, with no bytes after it
unfoldable pub alone : {A : Type 0} → Reader A → Reader A
alone r = do
  x ← r
  _ ← end
  done x

-- A frame without its length prefix.
unfoldable pub frame : Reader Frame
frame = do
  v ← version
  k ← kind v
  sender ← origin
  n ← number
  b ← alone (fields k)
  done (record { sender = sender; number = n; body = b })

-- the frame that was read, with its length in bytes in place of the bytes after it
abbrev pub with_length : ℕ → Result (Frame × List ℕ) FrameFault → Result (Frame × ℕ) FrameFault
with_length n (Ok x) = Ok (x.0, n)
with_length n (Err fault) = Err fault

-- the frame whose body, of length len, is at the front of the bytes after the length prefix
unfoldable pub body_of : ℕ → List ℕ → Result (Frame × ℕ) FrameFault
body_of len after =
    if nat_lt MAX_BODY len then Err TooLong else
    if nat_lt (length after) len then Err Short else
    with_length (4 + len) (frame (take len after))

-- The first frame of the bytes and its length, or the first fault: too few bytes for the length prefix, a length
-- greater than MAX_BODY, too few bytes for the body, and then the faults of the body.
unfoldable pub read : List ℕ → Result (Frame × ℕ) FrameFault
read bytes =
    if nat_lt (length bytes) 4 then Err Short else
    body_of (from_be_bytes w32 (take 4 bytes)) (drop 4 bytes)
