-- Readers and writers with the counts of their calls.
use Rattle.std.specs.Prelude.{ℕ, Bool}

-- A reader, the numbers of its calls and of its failed calls, and whether the last call read no byte into a buffer that
-- had room.
pub record CountedReader (R : Type 0) : Type 0 where
  pub reader : R
  pub reads : ℕ
  pub failures : ℕ
  pub gave_none : Bool

-- A writer, the number of its failed calls, and whether the last call took no byte of a buffer that had some.
pub record CountedWriter (W : Type 0) : Type 0 where
  pub writer : W
  pub failures : ℕ
  pub took_none : Bool
