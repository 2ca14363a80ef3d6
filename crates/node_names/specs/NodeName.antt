-- Which bytes name a node.
use Rattle.std.specs.Prelude.{◌≡◌, ℕ, ◌<◌, ◌≤◌, Bool, ◌||◌, not, ◌==◌, nat_lt, slice_index, if◌then◌else◌, IsTrue, Option, List, [], ◌∷◌, ◌++◌}
use Rattle.std.specs.Prelude.{length, take, drop, replicate, position, All}
use Rattle.std.specs.Char.{is_ascii_lowercase, is_ascii_digit}

-- A node's name is seen as the list of its bytes.
abbrev pub Name : Type 0
Name = List ℕ

-- b'-'
abbrev pub dash : ℕ
dash = 45

-- whether a byte is a lowercase letter, a digit or a dash
abbrev pub is_name_byte : ℕ → Bool
is_name_byte b = is_ascii_lowercase b || is_ascii_digit b || b == dash

-- A name has 1 to 32 bytes, each of them a lowercase letter, a digit or a dash.
pub record IsNodeName (bytes : Name) : Type 0 where
  pub not_empty : 0 < length bytes
  pub short : length bytes ≤ 32
  pub alphabet : All (λ b. IsTrue (is_name_byte b)) bytes

-- the index of the first byte that is not allowed in a name
abbrev pub first_bad_byte : List ℕ → Option ℕ
first_bad_byte bytes = position (λ b. not (is_name_byte b)) bytes

-- 32 bytes that hold the name: behind it zeros, and last its length, unless its own last byte stands there
unfoldable pub packed : Name → List ℕ
packed name = name ++ drop (length name) (replicate 31 0 ++ length name ∷ [])

-- How long the name is that 32 bytes hold: their last is a length if it is less than 32, and else a byte of the name.
unfoldable pub held_length : List ℕ → ℕ
held_length bytes = if nat_lt (slice_index bytes 31) 32 then slice_index bytes 31 else 32

-- the name that 32 bytes hold
unfoldable pub held_name : List ℕ → Name
held_name bytes = take (held_length bytes) bytes

-- The 32 bytes hold a name.
pub record HoldsName (bytes : List ℕ) : Type 0 where
  pub name : IsNodeName (held_name bytes)
  pub whole : packed (held_name bytes) ≡ bytes
