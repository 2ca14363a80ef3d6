-- Steps of a trace, and what playing them does.
use Rattle.std.specs.Prelude.{◌≡◌, ◌<◌, ℕ, Bool, true, false, List, Some, set, slice_get}
use Rattle.protocol.specs.Stimulus.{Stimulus}
use Rattle.protocol.specs.Trace.{Trace}
use Rattle.protocol.specs.declared.stimulus.StimulusOf.TheVariants.{Broadcast, Arrive, Fire, Flush, Down, Shuffle, Join}
use Rattle.frames.specs.Frame.{Frame}
use Rattle.trace_merge.specs.Merging.{IsHeld, IsMerging, Merge, place_at, remaining}

-- The stimulus is not the arrival of a packet.
abbrev pub IsNoArrival : Stimulus Frame → Type 0
IsNoArrival (Arrive sender note dice) = ⊥
IsNoArrival (Broadcast payload) = Unit {0}
IsNoArrival (Fire id) = Unit {0}
IsNoArrival Flush = Unit {0}
IsNoArrival (Down peer dice) = Unit {0}
IsNoArrival (Shuffle dice) = Unit {0}
IsNoArrival (Join contact) = Unit {0}

-- The trace at index `at` was played on, up to `place`.
pub record GoesOn (traces : List (Trace Frame)) (at place : ℕ) (old new : Merge) : Type 0 where
  pub limits : new.world.limits ≡ old.world.limits
  pub places : new.places ≡ set old.places at (Some place)
  pub merging : IsMerging old.world.limits traces new

-- Something was played.
pub record Advances (traces : List (Trace Frame)) (old new : Merge) : Type 0 where
  pub limits : new.world.limits ≡ old.world.limits
  pub merging : IsMerging old.world.limits traces new
  pub falls : remaining traces new.places < remaining traces old.places

-- Nothing was played of the trace at index `at`, which cannot be played any further.
pub record Rests (traces : List (Trace Frame)) (at : ℕ) (old new : Merge) : Type 0 where
  pub same : new ≡ old
  pub held : (t : Trace Frame) → slice_get traces at ≡ Some t → IsHeld traces old.places t (place_at old.places at)

-- Something was played, or nothing changed.
pub record Moves (traces : List (Trace Frame)) (moved : Bool) (old new : Merge) : Type 0 where
  pub limits : new.world.limits ≡ old.world.limits
  pub merging : IsMerging old.world.limits traces new
  pub falls : moved ≡ true → remaining traces new.places < remaining traces old.places
  pub still : moved ≡ false → new ≡ old
