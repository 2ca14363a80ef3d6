-- Properties of all traces at once, and which runs are earlier ones.
use Rattle.std.specs.Prelude.{◌≡◌, ◌<◌, ℕ, List, Option, Some, slice_get}
use Rattle.node_names.specs.declared.ids.Origin.{Origin}
use Rattle.protocol.specs.Trace.{Trace}
use Rattle.frames.specs.Frame.{Frame}
use Rattle.trace_merge.specs.Merging.{IsHeld, IsOut, place_at}

-- None of the traces can be played any further.
abbrev pub AreHeld : List (Trace Frame) → List (Option ℕ) → Type 0
AreHeld traces places = (i : ℕ) (t : Trace Frame) → slice_get traces i ≡ Some t → IsHeld traces places t (place_at places i)

-- All of the traces are finished.
abbrev pub AreOut : List (Trace Frame) → List (Option ℕ) → Type 0
AreOut traces places = (i : ℕ) (t : Trace Frame) → slice_get traces i ≡ Some t → IsOut t (place_at places i)

-- The first run is an earlier run of the same name as the other.
abbrev pub IsEarlier : Origin → Origin → Type 0
IsEarlier one other = (one.name ≡ other.name) × (one.incarnation.0 < other.incarnation.0)
