-- What the bytes of a connection say, one after the other: hello (introduction | frame)*
use Rattle.std.specs.Prelude.{ℕ, Bool, true, false, ◌&&◌, List, [], ◌∷◌, ◌++◌, length, Option, Some, None, Result, Ok, Err, if◌then◌else◌, ◌==◌}
use Rattle.handshake.specs.declared.error.HandshakeError.{HandshakeError}
use Rattle.handshake.specs.declared.place.Place.TheVariants.{Boundary}
use Rattle.handshake.specs.declared.record.Record.{Record}
use Rattle.handshake.specs.Judging.{judged}
use Rattle.handshake.specs.Place as place
use Rattle.handshake.specs.State.{State}

-- what a connection gives: a byte of a frame, for the node, or a record that is no frame
pub data Yield : Type 0 where
  frame_byte : ℕ → Yield
  gave : Record → Yield

-- nothing came
abbrev pub start : State
start = record { is_open = false; place = Boundary; kept = [] }

-- whether frames may stand here: the hello came, and no other record is under way
abbrev pub is_in_frames : State → Bool
is_in_frames s = s.is_open && length s.kept == 0

-- the state after more bytes of frames
abbrev pub passed : State → List ℕ → State
passed s bytes = record s { place = place.after s.place bytes }

-- how many of the first bytes are of frames
abbrev pub frames : State → List ℕ → ℕ
frames s bytes = if is_in_frames s then place.frames s.place bytes else 0

-- the state that was reached and what was given on the way, or the fault that was met
abbrev pub Reached : Type 0
Reached = Result (State × List Yield) HandshakeError

-- the bytes of a record that is no frame, as they were judged
abbrev pub answered : State → List ℕ → Result (Option Record) HandshakeError → Reached
answered s kept (Ok None) = Ok (record s { kept = kept }, [])
answered s kept (Ok (Some r)) = Ok (record s { is_open = true; kept = [] }, gave r ∷ [])
answered s kept (Err error) = Err error

-- a byte of a frame, or of another record
abbrev pub step_by : Bool → State → ℕ → Reached
step_by true s byte = Ok (passed s (byte ∷ []), frame_byte byte ∷ [])
step_by false s byte = answered s (s.kept ++ byte ∷ []) (judged s.is_open (s.kept ++ byte ∷ []))

-- one byte
unfoldable pub step : State → ℕ → Reached
step s byte = step_by (is_in_frames s && place.goes_on s.place byte) s byte

-- with what was given before
abbrev pub with_yields : List Yield → Reached → Reached
with_yields before (Ok x) = Ok (x.0, before ++ x.1)
with_yields before (Err error) = Err error

-- goes on, unless a fault was met
abbrev pub and_then : Reached → (State → Reached) → Reached
and_then (Ok x) next = with_yields x.1 (next x.0)
and_then (Err error) next = Err error

-- One byte after the other, up to the first fault. However the bytes are cut, they lead to the same state and give the
-- same frames and records.
abbrev pub run : State → List ℕ → Reached
run s [] = Ok (s, [])
run s (byte ∷ bytes) = and_then (step s byte) (λ next. run next bytes)

-- what is given where a record came, or none
abbrev pub given_by : Option Record → List Yield
given_by None = []
given_by (Some r) = gave r ∷ []
