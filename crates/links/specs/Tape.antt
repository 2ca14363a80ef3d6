-- Readers and writers over memory.
use Rattle.std.specs.Prelude.{ℕ, min, max, Bool, Option, List, length, get_or}

-- A reader's tape: the bytes that are left, the maximum number of bytes of each call, the call that is to fail, the
-- numbers of calls and of failed calls, and whether the last call read no byte into a buffer that had room.
pub record ReadTape : Type 0 where
  pub bytes : List ℕ
  pub pieces : List ℕ
  pub fails : Option ℕ
  pub calls : ℕ
  pub failures : ℕ
  pub gave_none : Bool

-- A writer's tape: the bytes that were written, the maximum number of bytes of a call, the call that is to fail, the
-- numbers of calls and of failed calls, and whether the last call took no byte of a buffer that had some.
pub record WriteTape : Type 0 where
  pub bytes : List ℕ
  pub most : ℕ
  pub fails : Option ℕ
  pub calls : ℕ
  pub failures : ℕ
  pub took_none : Bool

-- How many bytes the next call reads into this much room: as many as are left and fit, if it has no entry in pieces.
abbrev pub piece_len : ReadTape → ℕ → ℕ
piece_len tape room = min (min (max (get_or tape.pieces tape.calls 18446744073709551615) 1) room) (length tape.bytes)
