use Rattle.std.proofs.Common.{◌≡◌, ◌<◌, ℕ}
use Rattle.std.specs.Prelude.{Some, slice_get}
use Rattle.protocol.specs.Trace.{Trace}
use Rattle.frames.specs.Frame.{Frame}
use Rattle.trace_merge.specs.Merging.{IsOut, place_at}
use Rattle.trace_merge.proofs.stuck.first_left.Given as goal

-- the traces so far are played out
abbrev pub invariant-loop-at : goal.invariant-loop-at
invariant-loop-at g l = (i : ℕ) (t : Trace Frame) → i < l.at → slice_get l.traces i ≡ Some t → IsOut t (place_at l.places i)
