-- When what came out of a link is what its node sent.
use Rattle.std.specs.Prelude.{◌≡◌, ℕ, ◌≤◌, ◌+◌, ◌↔◌, List, ◌∷◌, ◌++◌, Option, Some, None, All, length, map}
use Rattle.node_names.specs.NodeName.{Name}
use mathlib.Core.List.{IsPrefix}
use Rattle.protocol.specs.Trace.{Trace}
use Rattle.frames.specs.Frame.{Frame}
use Rattle.node_threads.specs.LinkText.{spelling, text_since}
use Rattle.node_threads.specs.Outlet.{Outlet}
use Rattle.node_threads.specs.declared.cell.report.LinkReport.{LinkReport}

-- The trace lacks the first `since` steps, which were made before the link was opened; no more steps than now had been
-- made then; and what came out of the link is a prefix of the frames that the node sent to its peer since, each frame as
-- its bytes.
pub record BeginsText (since : ℕ) (trace : Trace Frame) (outlet : Outlet) : Type 0 where
  pub opened_since : since ≤ outlet.opened
  pub opened_before : outlet.opened ≤ since + length trace.steps
  pub begins : IsPrefix outlet.given (map spelling (text_since since trace outlet.peer outlet.opened))

-- What is left of what came out of a link when these frames are taken from its front: whatever follows the frames, what
-- came out is a prefix of the frames and what follows exactly if what is left is a prefix of what follows. `None`: what
-- came out differs from the frames.
abbrev pub Leaves : List (List ℕ) → List (List ℕ) → Option (List (List ℕ)) → Type 0
Leaves given frames (Some rest) = (more : List (List ℕ)) → IsPrefix given (frames ++ more) ↔ IsPrefix rest more
Leaves given frames None = (more : List (List ℕ)) → IsPrefix given (frames ++ more) → ⊥

-- the report of an outlet: where its link goes to, since when, and how many frames came out
abbrev pub report_of : Outlet → LinkReport
report_of outlet = record { peer = outlet.peer; opened = outlet.opened; taken = length outlet.given }

-- The reports of these outlets are appended, one each and in order, and what came out of each is how its text begins.
pub record AddsReports (since : ℕ) (trace : Trace Frame) (outlets : List Outlet) (old new : List LinkReport) : Type 0 where
  pub reports : new ≡ old ++ map report_of outlets
  pub begun : All (BeginsText since trace) outlets

-- What came out of an outlet to this peer is not how its text begins, and it is the first such outlet among these.
pub record IsFirstTorn (since : ℕ) (trace : Trace Frame) (outlets : List Outlet) (peer : Name) : Type 0 where
  pub before : List Outlet
  pub outlet : Outlet
  pub after : List Outlet
  pub parts : outlets ≡ before ++ outlet ∷ after
  pub begun : All (BeginsText since trace) before
  pub torn : BeginsText since trace outlet → ⊥
  pub its_peer : outlet.peer ≡ peer
