-- What ports got for their broadcasts, and when this is as in the trace.
use Rattle.std.specs.Prelude.{◌≡◌, ◌≤◌, ◌<◌, ◌+◌, ◌==◌, ℕ, List, [], ◌∷◌, Option, Some, None, All, count_by, length, slice_get, take}
use Rattle.std.specs.List.{flat_map}
use Rattle.node_names.specs.NodeName.{Name}
use Rattle.node_names.specs.declared.ids.MsgId.{MsgId}
use Rattle.protocol.specs.CoreState.{CoreState}
use Rattle.protocol.specs.Delivery.{Delivery}
use Rattle.protocol.specs.Stimulus.{Stimulus}
use Rattle.protocol.specs.Trace.{Step}
use Rattle.protocol.specs.declared.stimulus.StimulusOf.TheVariants.{Broadcast, Arrive, Fire, Flush, Down, Shuffle, Join}
use Rattle.frames.specs.Frame.{Frame}
use Rattle.node_threads.specs.Applying.{Applies, id_given}
use Rattle.node_threads.specs.Cell.{Cell}
use Rattle.node_threads.specs.declared.cell.receipt.Receipt.{Receipt}

-- A port asked for the broadcast of this payload and got this receipt.
pub record Call : Type 0 where
  pub payload : List ℕ
  pub receipt : Receipt

-- The step broadcast this payload under this id.
pub record Broadcasts (step : Step Frame) (payload : List ℕ) (id : MsgId) : Type 0 where
  pub its_payload : step.stimulus ≡ Broadcast payload
  pub its_id : id_given step.stimulus step.out.deliveries ≡ Some id

-- The receipt is right: the step at its place broadcast the payload of the call under its id.
pub record IsRight (steps : List (Step Frame)) (call : Call) : Type 0 where
  pub step : Step Frame
  pub is_there : slice_get steps call.receipt.place ≡ Some step
  pub broadcasts : Broadcasts step call.payload call.receipt.id

-- The places of the calls rise strictly, from this one on.
abbrev pub Rises : ℕ → List Call → Type 0
Rises low [] = Unit {0}
Rises low (call ∷ calls) = (low ≤ call.receipt.place) × Rises (call.receipt.place + 1) calls

-- how many of the calls have a receipt for this place
abbrev pub calls_at : ℕ → List Call → ℕ
calls_at place calls = count_by (λ call. call.receipt.place == place) calls

-- the calls of all ports
abbrev pub all_calls : List (List Call) → List Call
all_calls ports = flat_map (λ calls. calls) ports

-- The receipts of the ports fit the trace: those of each port are in order, each is right, and no two are for the same
-- step.
pub record PortsFit (steps : List (Step Frame)) (ports : List (List Call)) : Type 0 where
  pub in_order : All (Rises 0) ports
  pub right : All (IsRight steps) (all_calls ports)
  pub once : (place : ℕ) → calls_at place (all_calls ports) ≤ 1

-- A node made a step that broadcast this payload, and the receipt has the id and the place of that step.
pub record IsMade {C : Type 0} (state : C → CoreState)
    (steps : C → Stimulus Frame → List (Name × Frame) → List Delivery → C → Type 0) (payload : List ℕ) (receipt : Receipt) : Type 0 where
  pub old : Cell C
  pub new : Cell C
  pub full : List Name
  pub lacking : List Name
  pub applies : Applies state steps old (Broadcast payload) new (Some receipt.id) receipt.place full lacking

-- 1 for a broadcast, and 0 for any other stimulus
abbrev pub broadcasts_of : Stimulus Frame → ℕ
broadcasts_of (Broadcast payload) = 1
broadcasts_of (Arrive sender frame dice) = 0
broadcasts_of (Fire id) = 0
broadcasts_of Flush = 0
broadcasts_of (Down peer dice) = 0
broadcasts_of (Shuffle dice) = 0
broadcasts_of (Join contact) = 0

-- 1 if a step was found and is a broadcast, and 0 otherwise
abbrev pub broadcasts_in : Option (Step Frame) → ℕ
broadcasts_in None = 0
broadcasts_in (Some step) = broadcasts_of step.stimulus

-- the number of broadcasts that the trace has at this place: 1 if its step is a broadcast, and 0 if it is not or there
-- is no step
abbrev pub broadcasts_at : ℕ → List (Step Frame) → ℕ
broadcasts_at place steps = broadcasts_in (slice_get steps place)

-- The ports have all broadcasts of the trace, each once, and nothing else.
pub record AllAlike (steps : List (Step Frame)) (ports : List (List Call)) : Type 0 where
  pub fit : PortsFit steps ports
  pub all : (place : ℕ) → calls_at place (all_calls ports) ≡ broadcasts_at place steps

-- Some broadcast of the trace is in no port.
pub record LacksOne (steps : List (Step Frame)) (ports : List (List Call)) : Type 0 where
  pub place : ℕ
  pub is_broadcast : broadcasts_at place steps ≡ 1
  pub in_no_port : calls_at place (all_calls ports) ≡ 0

-- The ports before this one fit the trace, and with it they do not; or all ports fit, and a broadcast of the trace is
-- in none of them.
pub record IsFirstUnlike (steps : List (Step Frame)) (ports : List (List Call)) (n : ℕ) : Type 0 where
  pub within : n ≤ length ports
  pub before : PortsFit steps (take n ports)
  pub unlike : n < length ports → ¬ PortsFit steps (take (n + 1) ports)
  pub lacking : n ≡ length ports → LacksOne steps ports
