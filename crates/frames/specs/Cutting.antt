-- Cutting a stream of bytes into frames.
use Rattle.std.specs.Prelude.{◌≡◌, ◌≢◌, ℕ, List, [], ◌∷◌, ◌++◌, Option, Some, None, Result, Ok, Err}
use Rattle.frames.specs.declared.fault.FrameFault.{FrameFault}
use Rattle.frames.specs.declared.fault.FrameFault.TheVariants.{Short}
use Rattle.frames.specs.Answer.{IsFaultOf}
use Rattle.frames.specs.Frame.{Frame}
use Rattle.frames.specs.Grammar.{IsSpelling}
use Rattle.frames.specs.Reading.{read}

-- The old bytes begin with a spelling of the frame, and the new bytes are those after it.
pub record Cuts (frame : Frame) (old new : List ℕ) : Type 0 where
  pub spelling : List ℕ
  pub spelled : IsSpelling frame spelling
  pub parts : old ≡ spelling ++ new

-- The next frame of the old bytes: Some frame that they begin with; None, if they end before it does; or a fault, which
-- is the first in the order of faults or a refused allocation. The new bytes are the old ones without that frame.
abbrev pub IsNext : Result (Option Frame) FrameFault → List ℕ → List ℕ → Type 0
IsNext (Ok (Some frame)) old new = Cuts frame old new
IsNext (Ok None) old new = (read old ≡ Err Short) × (new ≡ old)
IsNext (Err fault) old new = IsFaultOf fault (read old) × (fault ≢ Short) × (new ≡ old)

-- The stream is the spellings of the frames, one after the other, followed by the rest.
abbrev pub Begins : List Frame → List ℕ → List ℕ → Type 0
Begins [] stream rest = stream ≡ rest
Begins (frame ∷ frames) stream rest = (after : List ℕ) × Cuts frame stream after × Begins frames after rest

-- The fault that was met, if any, is that of the bytes, and not Short.
abbrev pub IsMet : Option FrameFault → List ℕ → Type 0
IsMet None bytes = Unit {0}
IsMet (Some fault) bytes = (read bytes ≡ Err fault) × (fault ≢ Short)

-- A call of a cutter that changes it: a piece was fed, or a frame was given.
pub data Call : Type 0 where
  fed : List ℕ → Call
  gave : Frame → Call

-- The calls were made one after the other, and led from the old bytes to the new ones.
abbrev pub Calls : List Call → List ℕ → List ℕ → Type 0
Calls [] old new = old ≡ new
Calls (fed piece ∷ calls) old new = Calls calls (old ++ piece) new
Calls (gave frame ∷ calls) old new = (after : List ℕ) × Cuts frame old after × Calls calls after new

-- the stream that was fed
abbrev pub fed_by : List Call → List ℕ
fed_by [] = []
fed_by (fed piece ∷ calls) = piece ++ fed_by calls
fed_by (gave frame ∷ calls) = fed_by calls

-- the frames that were given
abbrev pub given_by : List Call → List Frame
given_by [] = []
given_by (fed piece ∷ calls) = given_by calls
given_by (gave frame ∷ calls) = frame ∷ given_by calls

-- The bytes do not begin with a frame: they end before it does, or have another fault.
abbrev pub IsDone : List ℕ → Type 0
IsDone bytes = (fault : FrameFault) × (read bytes ≡ Err fault)
