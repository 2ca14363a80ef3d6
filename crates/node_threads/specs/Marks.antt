-- How the receipts of one port are compared with the trace: each place that has a receipt is marked.
use Rattle.std.specs.Prelude.{◌≡◌, ◌≤◌, ◌+◌, ℕ, Bool, false, List, All, if◌then◌else◌}
use Rattle.std.specs.List.{slice_index_or}
use Rattle.protocol.specs.Trace.{Step}
use Rattle.frames.specs.Frame.{Frame}
use Rattle.node_threads.specs.Receipts.{Call, IsRight, Rises, broadcasts_at, calls_at}

-- how many marks a place has: one or none
abbrev pub marks_at : ℕ → List Bool → ℕ
marks_at place marks = if slice_index_or marks place false then 1 else 0

-- The receipt is right, and its place is not below this one and has no mark.
pub record FitsAt (steps : List (Step Frame)) (marks : List Bool) (low : ℕ) (call : Call) : Type 0 where
  pub in_order : low ≤ call.receipt.place
  pub right : IsRight steps call
  pub free : marks_at call.receipt.place marks ≡ 0

-- The receipts of a port are right and in order from this place on, no two are for the same step, and none is for a
-- marked one.
pub record Fits (steps : List (Step Frame)) (marks : List Bool) (low : ℕ) (calls : List Call) : Type 0 where
  pub in_order : Rises low calls
  pub right : All (IsRight steps) calls
  pub once : (place : ℕ) → marks_at place marks + calls_at place calls ≤ 1

-- The places of the calls are marked too.
abbrev pub Marks : List Bool → List Call → List Bool → Type 0
Marks before calls after = (place : ℕ) → marks_at place after ≡ marks_at place before + calls_at place calls

-- Some broadcast of the trace has no mark.
pub record LacksMark (steps : List (Step Frame)) (marks : List Bool) : Type 0 where
  pub place : ℕ
  pub is_broadcast : broadcasts_at place steps ≡ 1
  pub unmarked : marks_at place marks ≡ 0

-- Each broadcast of the trace has a mark.
abbrev pub HasMarks : List (Step Frame) → List Bool → Type 0
HasMarks steps marks = (place : ℕ) → broadcasts_at place steps ≤ marks_at place marks
