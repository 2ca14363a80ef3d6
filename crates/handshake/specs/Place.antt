-- Where in a frame a stream of frames stands. A frame is four bytes, a number in big endian, and then that many bytes.
use Rattle.std.specs.Prelude.{ℕ, zero, suc, ◌-◌, Bool, true, false, List, [], ◌∷◌, ◌==◌, if◌then◌else◌}
use Rattle.std.specs.Int.{w32, from_be_bytes}
use Rattle.handshake.specs.declared.place.Place.{Place}
use Rattle.handshake.specs.declared.place.Place.TheVariants.{Boundary, One, Two, Three, Body}

-- the place where so many bytes of a body are left
abbrev pub body : ℕ → Place
body zero = Boundary
body (suc left) = Body (suc left)

-- the place after one more byte
abbrev pub next_place : Place → ℕ → Place
next_place Boundary byte = One byte
next_place (One a) byte = Two a byte
next_place (Two a b) byte = Three a b byte
next_place (Three a b c) byte = body (from_be_bytes w32 (a ∷ b ∷ c ∷ byte ∷ []))
next_place (Body left) byte = body (left - 1)

-- the place after more bytes
abbrev pub after : Place → List ℕ → Place
after place [] = place
after place (byte ∷ bytes) = after (next_place place byte) bytes

-- whether no frame is under way
abbrev pub is_boundary : Place → Bool
is_boundary Boundary = true
is_boundary (One a) = false
is_boundary (Two a b) = false
is_boundary (Three a b c) = false
is_boundary (Body left) = false

-- Whether the next byte is of a frame. At a boundary only a 0 is, since the number of each frame is below 2 ^ 24.
abbrev pub goes_on : Place → ℕ → Bool
goes_on place byte = if is_boundary place then byte == 0 else true

-- how many of the first bytes are of frames
abbrev pub frames : Place → List ℕ → ℕ
frames place [] = 0
frames place (byte ∷ bytes) = if goes_on place byte then suc (frames (next_place place byte) bytes) else 0

-- how many of the first bytes are of the frame under way
abbrev pub cut : Place → List ℕ → ℕ
cut place [] = 0
cut place (byte ∷ bytes) = if is_boundary place then 0 else suc (cut (next_place place byte) bytes)
