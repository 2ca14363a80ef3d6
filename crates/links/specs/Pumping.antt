-- What a call that pumps a reader's bytes into a sink does.
use Rattle.std.specs.Prelude.{◌≡◌, ◌≢◌, ℕ, ◌*◌, ◌≤◌, List, ◌++◌, length, Option, None, Err, IfSome}
use Rattle.std.specs.Io.KnownBytes.{Consumes}
use Rattle.frames.specs.declared.fault.FrameFault.TheVariants as fault
use Rattle.frames.specs.Cutting.{Begins, Cuts}
use Rattle.frames.specs.Frame.{Frame as Sent}
use Rattle.frames.specs.Reading.{read}
use Rattle.links.specs.declared.ends.LinkEnd.{LinkEnd}
use Rattle.links.specs.declared.ends.LinkEnd.TheVariants.{ReadFault, WriteFault, Frame, Ended, TurnLimit, SinkClosed, OutOfMemory}

-- The bytes end before their first frame does.
abbrev pub IsPartial : List ℕ → Type 0
IsPartial bytes = read bytes ≡ Err fault.Short

-- What holds at each end, where rest is the stream after the frames that the sink took, and left is what the cutter
-- then has. At the end of the stream, at a failed read and when the turns are used up, the sink took all whole frames. At a
-- fault too, and the fault is that of the bytes after them. A sink that was closed was offered one more frame, which is
-- lost. If memory was refused, bytes that were read may be lost.
abbrev pub EndsSo : LinkEnd → List ℕ → List ℕ → Type 0
EndsSo ReadFault rest left = IsPartial rest × (left ≡ rest)
EndsSo (WriteFault bytes) rest left = ⊥
EndsSo (Frame f) rest left = (read rest ≡ Err f) × (left ≡ rest)
EndsSo (Ended n) rest left = IsPartial rest × (left ≡ rest) × (n ≡ length left)
EndsSo TurnLimit rest left = IsPartial rest × (left ≡ rest)
EndsSo SinkClosed rest left = (frame : Sent) × Cuts frame rest left
EndsSo OutOfMemory rest left = (lost : List ℕ) × (rest ≡ left ++ lost)

-- What the sink took is, in order, the frames of a stream: of the bytes that the cutter had and those that were read,
-- which are at most 4,096 for each turn.
pub record Pumps (end : LinkEnd) (turns : ℕ) (cutter cutter' : List ℕ) (taken taken' : List Sent) (known known' : Option (List ℕ)) : Type 0 where
  pub frames : List Sent
  pub bytes : List ℕ
  pub rest : List ℕ
  pub sunk : taken' ≡ taken ++ frames
  pub consumed : Consumes known known' bytes
  pub few : length bytes ≤ 4096 * turns
  pub stream : Begins frames (cutter ++ bytes) rest
  pub ends : EndsSo end rest cutter'

-- The ends that giving frames to a sink can have: a frame that is not whole yet is not an end.
abbrev pub ComesOfGiving : LinkEnd → Type 0
ComesOfGiving ReadFault = ⊥
ComesOfGiving (WriteFault bytes) = ⊥
ComesOfGiving (Frame f) = f ≢ fault.Short
ComesOfGiving (Ended n) = ⊥
ComesOfGiving TurnLimit = ⊥
ComesOfGiving SinkClosed = Unit {0}
ComesOfGiving OutOfMemory = Unit {0}

-- What the sink took of the frames that the cutter had, if giving ended the call with end, or goes on if end is None.
pub record Gives (end : Option LinkEnd) (cutter cutter' : List ℕ) (taken taken' : List Sent) : Type 0 where
  pub frames : List Sent
  pub rest : List ℕ
  pub sunk : taken' ≡ taken ++ frames
  pub stream : Begins frames cutter rest
  pub goes_on : end ≡ None → IsPartial rest × (cutter' ≡ rest)
  pub stops : IfSome end (λ e. ComesOfGiving e × EndsSo e rest cutter')
