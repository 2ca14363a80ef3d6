-- Reading a Hello or an Introduction from left to right, up to the first error. This defines the order of the errors.
use Rattle.std.specs.Prelude.{ℕ, ◌-◌, Bool, ◌&&◌, List, [], ◌∷◌, length, take, drop, Result, Ok, Err, nat_lt, nat_le, nat_eq, ◌==◌, if◌then◌else◌}
use Rattle.std.specs.List.{list_all}
use Rattle.std.specs.Int.{w16, from_be_bytes}
use Rattle.std.specs.Cmp.Lexicographic.{pointwise}
use Rattle.node_names.specs.NodeName.{Name, is_name_byte}
use Rattle.handshake.specs.declared.address.Address.{Address}
use Rattle.handshake.specs.declared.address.Address.TheVariants.{V4, V6}
use Rattle.handshake.specs.declared.error.HelloError.{HelloError}
use Rattle.handshake.specs.declared.error.HelloError.TheVariants.{Short, NotPlumtree, OtherVersion, BadLabel, BadAddressee, BadName, BadAddress}
use Rattle.handshake.specs.declared.hello.Hello.{Hello}
use Rattle.handshake.specs.declared.introduction.Introduction.{Introduction}
use Rattle.handshake.specs.Text.{plum}

-- What reading from the front of the bytes gives: a value and the bytes after it, or an error.
abbrev pub Reader : Type 0 → Type 0
Reader A = List ℕ → Result (A × List ℕ) HelloError

-- reads on after a value, and stops at an error
abbrev pub go_on : {A B : Type 0} → (A → Reader B) → Result (A × List ℕ) HelloError → Result (B × List ℕ) HelloError
go_on f (Ok x) = f x.0 x.1
go_on f (Err error) = Err error

-- reads a value, and then what depends on it
infixl 10 ◌>>=◌
abbrev pub ◌>>=◌ : {A B : Type 0} → Reader A → (A → Reader B) → Reader B
(r >>= f) bytes = go_on f (r bytes)

-- reads nothing more
abbrev pub done : {A : Type 0} → A → Reader A
done x bytes = Ok (x, bytes)

-- the error, unless the test holds; reads nothing
abbrev pub judge : Bool → HelloError → Reader (Unit {0})
judge good error bytes = if good then Ok (tt, bytes) else Err error

-- the first n bytes
abbrev pub octets : ℕ → Reader (List ℕ)
octets n bytes = if nat_lt (length bytes) n then Err Short else Ok (take n bytes, drop n bytes)

unfoldable pub byte : Reader ℕ
byte [] = Err Short
byte (b ∷ rest) = Ok (b, rest)

-- "PLUM"
unfoldable pub start : Reader (Unit {0})
start = do
  front ← octets 4
  judge (pointwise nat_eq front plum) NotPlumtree

-- the version, 2
unfoldable pub version : Reader (Unit {0})
version = do
  v ← byte
  judge (v == 2) (OtherVersion v)

-- A name: its length is checked before its bytes are read, and its alphabet afterwards.
unfoldable pub name : HelloError → Reader Name
name bad = do
  len ← byte
  _ ← judge (nat_le 1 len && nat_le len 32) bad
  bytes ← octets len
  _ ← judge (list_all is_name_byte bytes) bad
  done bytes

-- a big-endian number of two bytes
unfoldable pub port : Reader ℕ
port = do
  bytes ← octets 2
  done (from_be_bytes w16 bytes)

-- an IPv4 address after its first byte
unfoldable pub v4 : Reader Address
v4 = do
  o ← octets 4
  p ← port
  done (V4 o p)

-- an IPv6 address after its first byte
unfoldable pub v6 : Reader Address
v6 = do
  o ← octets 16
  p ← port
  done (V6 o p)

-- what follows the first byte of an address
abbrev pub address_of : ℕ → Reader Address
address_of kind bytes = if kind == 4 then v4 bytes else if kind == 6 then v6 bytes else Err (BadAddress kind)

unfoldable pub address : Reader Address
address = do
  kind ← byte
  address_of kind

unfoldable pub hello : Reader Hello
hello = do
  _ ← start
  _ ← version
  l ← name BadLabel
  t ← name BadAddressee
  n ← name BadName
  a ← address
  done (record { label = l; to = t; name = n; at = a })

-- the name and the address of an Introduction
unfoldable pub introduction : Reader Introduction
introduction = do
  n ← name BadName
  a ← address
  done (record { name = n; at = a })

-- what was read, with the number of bytes that were read in place of the bytes after it
abbrev pub with_length : ℕ → Result (Hello × List ℕ) HelloError → Result (Hello × ℕ) HelloError
with_length n (Ok x) = Ok (x.0, n - length x.1)
with_length n (Err error) = Err error

-- the Hello at the front of the bytes and its length, or the first error
unfoldable pub read : List ℕ → Result (Hello × ℕ) HelloError
read bytes = with_length (length bytes) (hello bytes)
