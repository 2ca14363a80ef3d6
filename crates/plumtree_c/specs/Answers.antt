-- What the numbers mean that the calls answer.
use Rattle.std.specs.Prelude.{◌≡◌, ℤ, pos, negsuc}

-- The call was made.
abbrev pub IsDone : ℤ → Type 0
IsDone code = code ≡ pos 1

-- There was none.
abbrev pub IsNone : ℤ → Type 0
IsNone code = code ≡ pos 0

-- The call was refused: the number is below 0.
abbrev pub IsRefusal : ℤ → Type 0
IsRefusal (pos n) = ⊥
IsRefusal (negsuc n) = Unit {0}

-- The call was made, and this holds; or it was not, and that holds.
abbrev pub DoneOr : ℤ → Type 0 → Type 0 → Type 0
DoneOr code made else = (IsDone code → made) × ((IsDone code → ⊥) → else)
