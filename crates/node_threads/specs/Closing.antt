-- What a node that was closed leaves.
use Rattle.std.specs.Prelude.{◌≡◌, ◌≤◌, ◌+◌, ℕ, List, [], Option, Some, None, All, length}
use Rattle.node_names.specs.NodeName.{Name}
use Rattle.node_names.specs.Limits.{Limits}
use Rattle.node_names.specs.declared.ids.Origin.{Origin}
use Rattle.protocol.specs.Delivery.{Delivery}
use Rattle.protocol.specs.Stimulus.{Stimulus}
use Rattle.protocol.specs.Trace.{Step, Trace}
use Rattle.frames.specs.Frame.{Frame}
use Rattle.node_threads.specs.Cell.{lost}
use Rattle.node_threads.specs.LinkText.{text_since}
use Rattle.node_threads.specs.Leaving.{AreLeft}
use Rattle.node_threads.specs.Outlet.{Outlet}
use Rattle.node_threads.specs.Receipts.{AllAlike, Call, IsFirstUnlike}
use Rattle.node_threads.specs.Report.{AddsReports, IsFirstTorn}
use Rattle.node_threads.specs.declared.cell.report.LinkReport.{LinkReport}
use Rattle.node_threads.specs.declared.host.comparing.Mismatch.{Mismatch}
use Rattle.node_threads.specs.declared.host.comparing.Mismatch.TheVariants as mismatch
use Rattle.node_threads.specs.declared.host.closed.CloseError.{CloseError}
use Rattle.node_threads.specs.declared.host.closed.CloseError.TheVariants as of
use Rattle.node_threads.specs.History.{IsEnd, IsHistory}

-- The receipts of the ports of a node that may not forget are as in the trace. Ports of one that may need not keep them.
abbrev pub AreAlike : Option ℕ → List (Step Frame) → List (List Call) → Type 0
AreAlike None steps ports = AllAlike steps ports
AreAlike (Some since) steps ports = Unit {0}

-- The same of the first port that is not as in the trace.
abbrev pub AreUnlike : Option ℕ → List (Step Frame) → List (List Call) → ℕ → Type 0
AreUnlike None steps ports port = IsFirstUnlike steps ports port
AreUnlike (Some since) steps ports port = ⊥

-- The link was opened within what the trace has, and no more frames came out of it than it was to carry.
pub record IsWithin (since : ℕ) (trace : Trace Frame) (report : LinkReport) : Type 0 where
  pub opened_since : since ≤ report.opened
  pub opened_within : report.opened ≤ since + length trace.steps
  pub taken_of_text : report.taken ≤ length (text_since since trace report.peer report.opened)

-- The receipts are as in the trace, and the links are the reports of the outlets; what came out of each outlet is how
-- its text begins.
pub record Matches (since : Option ℕ) (trace : Trace Frame) (ports : List (List Call)) (outlets : List Outlet) (links : List LinkReport) : Type 0 where
  pub alike : AreAlike since trace.steps ports
  pub reported : AddsReports (lost since) trace outlets [] links
  pub within : All (IsWithin (lost since) trace) links

-- The mismatch is the peer of the first outlet that is not as in the trace, or it is not known.
abbrev pub Tears : ℕ → Trace Frame → List Outlet → Mismatch → Type 0
Tears since trace outlets (mismatch.Port n) = ⊥
Tears since trace outlets (mismatch.Link peer) = IsFirstTorn since trace outlets peer
Tears since trace outlets mismatch.OutOfMemory = Unit {0}

-- What is not as in the trace: a port; or an outlet, if all ports are as in the trace; or it is not known.
abbrev pub Mismatches : Option ℕ → Trace Frame → List (List Call) → List Outlet → Mismatch → Type 0
Mismatches since trace ports outlets (mismatch.Port n) = AreUnlike since trace.steps ports n
Mismatches since trace ports outlets (mismatch.Link peer) = AreAlike since trace.steps ports × IsFirstTorn (lost since) trace outlets peer
Mismatches since trace ports outlets mismatch.OutOfMemory = Unit {0}

-- The trace is a history, if the node may not forget, and the end of one, if it may.
abbrev pub IsLeft : {C : Type 0}
    → (Origin → Limits → List Name → Option Name → List (Name × Frame) → C → Type 0)
    → (C → Stimulus Frame → List (Name × Frame) → List Delivery → C → Type 0)
    → Option ℕ → Trace Frame → Type 0
IsLeft starts steps None trace = IsHistory starts steps trace
IsLeft starts steps (Some since) trace = IsEnd starts steps since trace

-- The error that was found in place of a closed node's reports, if all outlets came back: its trace is handed out.
abbrev pub Finds : {C K A : Type 0}
    → (Origin → Limits → List Name → Option Name → List (Name × Frame) → C → Type 0)
    → (C → Stimulus Frame → List (Name × Frame) → List Delivery → C → Type 0)
    → List (List Call) → List Outlet → CloseError K A → Type 0
Finds starts steps ports outlets (of.PortMissing host given workers) = ⊥
Finds starts steps ports outlets (of.Unlike port since trace) = IsLeft starts steps since trace × AreUnlike since trace.steps ports port
Finds starts steps ports outlets (of.Torn peer since trace) =
    IsLeft starts steps since trace × AreAlike since trace.steps ports × IsFirstTorn (lost since) trace outlets peer
Finds starts steps ports outlets (of.OutOfMemory since trace) = IsLeft starts steps since trace

-- The outlets that the workers of a node had are those of workers that were joined before, and then those that these
-- workers left; and what the ports had is as in the trace, and the links are the reports of the outlets.
pub record IsClosed (since : Option ℕ) (trace : Trace Frame) (ports : List (List Call)) (workers : List (Option Name)) (links : List LinkReport) : Type 0 where
  pub before : List Outlet
  pub outlets : List Outlet
  pub left : AreLeft before workers outlets
  pub matches : Matches since trace ports outlets links

-- One of the outlets that the workers of a node had is torn, and the first torn outlet goes to this peer. What the
-- ports had is as in the trace.
pub record IsTorn (since : Option ℕ) (trace : Trace Frame) (ports : List (List Call)) (workers : List (Option Name)) (peer : Name) : Type 0 where
  pub before : List Outlet
  pub outlets : List Outlet
  pub left : AreLeft before workers outlets
  pub alike : AreAlike since trace.steps ports
  pub torn : IsFirstTorn (lost since) trace outlets peer

-- What a call returns that does not close a node: a port or worker is missing, and all is handed back as it was; or all
-- ports came back, the trace is handed out, and if a port or a link is named, what it had is not as in the trace.
abbrev pub Fails : {C K A : Type 0}
    → (Origin → Limits → List Name → Option Name → List (Name × Frame) → C → Type 0)
    → (C → Stimulus Frame → List (Name × Frame) → List Delivery → C → Type 0)
    → ℕ → List (List Call) → List (Option Name) → CloseError K A → Type 0
Fails starts steps made ports workers (of.PortMissing host given given_workers) = (host ≡ made) × (given.items ≡ ports) × (given_workers.items ≡ workers)
Fails starts steps made ports workers (of.Unlike port since trace) =
    (length ports ≡ made) × IsLeft starts steps since trace × AreUnlike since trace.steps ports port
Fails starts steps made ports workers (of.Torn peer since trace) =
    (length ports ≡ made) × IsLeft starts steps since trace × IsTorn since trace ports workers peer
Fails starts steps made ports workers (of.OutOfMemory since trace) = (length ports ≡ made) × IsLeft starts steps since trace
