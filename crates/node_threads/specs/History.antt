-- When a trace is the history of some core.
use Rattle.std.specs.Prelude.{◌≡◌, ℕ, List, Option, length}
use Rattle.node_names.specs.NodeName.{Name}
use Rattle.node_names.specs.Limits.{Limits}
use Rattle.node_names.specs.declared.ids.Origin.{Origin}
use Rattle.protocol.specs.Delivery.{Delivery}
use Rattle.protocol.specs.Replay.{Replays}
use Rattle.protocol.specs.Stimulus.{Stimulus}
use Rattle.protocol.specs.Trace.{Step, Trace}
use Rattle.frames.specs.Frame.{Frame}
use Rattle.node_threads.specs.Cell.{after}

-- The trace replays, and this core is the state at its end, within some limits.
abbrev pub IsHistoryTo : {C : Type 0} →
    (Origin → Limits → List Name → Option Name → List (Name × Frame) → C → Type 0) →
    (C → Stimulus Frame → List (Name × Frame) → List Delivery → C → Type 0) →
    Trace Frame →
    C →
    Type 0
IsHistoryTo starts steps trace last = (limits : Limits) × Replays starts steps limits trace last

-- The trace replays: it is the history of a core, within some limits.
pub record IsHistory
    {C : Type 0}
    (starts : Origin → Limits → List Name → Option Name → List (Name × Frame) → C → Type 0)
    (steps : C → Stimulus Frame → List (Name × Frame) → List Delivery → C → Type 0)
    (trace : Trace Frame)
    : Type 0 where
  pub limits : Limits
  pub last : C
  pub replays : Replays starts steps limits trace last

-- The trace is the end of a history that leads to this core: it lacks the first `since` steps.
pub record IsEndTo
    {C : Type 0}
    (starts : Origin → Limits → List Name → Option Name → List (Name × Frame) → C → Type 0)
    (steps : C → Stimulus Frame → List (Name × Frame) → List Delivery → C → Type 0)
    (since : ℕ)
    (trace : Trace Frame)
    (last : C)
    : Type 0 where
  pub before : List (Step Frame)
  pub lacks : length before ≡ since
  pub history : IsHistoryTo starts steps (after before trace) last

-- The trace is the end of some core's history: it lacks the first `since` steps.
pub record IsEnd
    {C : Type 0}
    (starts : Origin → Limits → List Name → Option Name → List (Name × Frame) → C → Type 0)
    (steps : C → Stimulus Frame → List (Name × Frame) → List Delivery → C → Type 0)
    (since : ℕ)
    (trace : Trace Frame)
    : Type 0 where
  pub before : List (Step Frame)
  pub lacks : length before ≡ since
  pub history : IsHistory starts steps (after before trace)
