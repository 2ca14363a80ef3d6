-- The known sequence numbers of one origin.
use Rattle.std.specs.Prelude.{ℕ, ◌+◌, ◌^◌, ◌<◌, Bool, List, [], ◌∷◌, ◌++◌, if◌then◌else◌, nat_eq}
use Rattle.std.specs.List.{list_any, range_with_len}

-- Whether 0 is known, how many numbers are known from 1 on without a gap, the known numbers past the gap in ascending
-- order, and for how many more edges of their runs there is room.
pub record Span : Type 0 where
  pub zero : Bool
  pub unbroken : ℕ
  pub past : List ℕ
  pub room : ℕ

-- Numbers below 2 ^ 64, each greater than the one before it, and the first greater than `low`.
abbrev pub Ascends : ℕ → List ℕ → Type 0
Ascends low [] = Unit {0}
Ascends low (n ∷ ns) = (low < n) × (n < 2 ^ 64) × Ascends n ns

-- the numbers from 1 to `unbroken`, and those past the gap
abbrev pub counted : ℕ → List ℕ → List ℕ
counted unbroken past = range_with_len 1 unbroken ++ past

-- all known numbers
abbrev pub numbers : Span → List ℕ
numbers span = if span.zero then 0 ∷ counted span.unbroken span.past else counted span.unbroken span.past

-- whether a number is known
abbrev pub has_number : Span → ℕ → Bool
has_number span n = list_any (nat_eq n) (numbers span)

-- The number can be inserted without allocating.
abbrev pub HasRoomFor : Span → ℕ → Type 0
HasRoomFor span n = span.unbroken + 1 < n → 1 < span.room
