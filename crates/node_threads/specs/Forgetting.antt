-- What a node and its outlets give up while the node runs.
use Rattle.std.specs.Prelude.{◌≡◌, ◌⊎◌, ◌≤◌, ◌+◌, ℕ, List, ◌++◌, drop, length, map, option_map, take}
use Rattle.node_names.specs.NodeName.{Name}
use Rattle.protocol.specs.Trace.{Trace}
use Rattle.frames.specs.Frame.{Frame}
use Rattle.node_threads.specs.Cell.{Cell}
use Rattle.node_threads.specs.LinkText.{spelling, text_since}
use Rattle.node_threads.specs.Outlet.{Outlet}

-- the node after it forgot the first `count` steps of its trace
abbrev pub forgetting : {C : Type 0} → ℕ → Cell C → Cell C
forgetting count cell =
    record cell { since = option_map (λ since. since + count) cell.since; trace = record cell.trace { steps = drop count cell.trace.steps } }

-- The first frames that came out of the link are what the node sent to its peer up to a later step. The outlet gives them
-- up: it is now as if the link had been opened at that step. The trace lacks the first `since` steps.
pub record GivesUp (since : ℕ) (trace : Trace Frame) (old new : Outlet) : Type 0 where
  pub gone : List Frame
  pub came_out : old.given ≡ map spelling gone ++ new.given
  pub sent : text_since since trace old.peer old.opened ≡ gone ++ text_since since trace old.peer new.opened
  pub later : old.opened ≤ new.opened
  pub within : old.opened ≤ since + length trace.steps → new.opened ≤ since + length trace.steps
  pub peer : new.peer ≡ old.peer
  pub seen : new.seen ≡ old.seen

-- The first `frames` of what came out of a link to this peer that was opened at one step are what the node sent to it up to
-- another, `place`. The trace lacks the first `since` steps.
pub record CameOut (since : ℕ) (trace : Trace Frame) (peer : Name) (opened : ℕ) (given : List (List ℕ)) (place frames : ℕ) : Type 0 where
  pub gone : List Frame
  pub so_many : frames ≤ length given
  pub came_out : take frames given ≡ map spelling gone
  pub sent : text_since since trace peer opened ≡ gone ++ text_since since trace peer place
  pub later : opened ≤ place
  pub within : opened ≤ since + length trace.steps → place ≤ since + length trace.steps

-- So it was by the trace that the node had at some time.
abbrev pub CameOutOnce : Outlet → ℕ → ℕ → Type 0
CameOutOnce outlet place frames = (since : ℕ) × (trace : Trace Frame) × CameOut since trace outlet.peer outlet.opened outlet.given place frames

-- The outlet is as it was; or it gave up what the node sent, by the trace that it had at some time.
abbrev pub MayGiveUp : Outlet → Outlet → Type 0
MayGiveUp old new = (new ≡ old) ⊎ ((since : ℕ) × (trace : Trace Frame) × GivesUp since trace old new)
