use Rattle.std.proofs.Common.{[], take}
use Rattle.node_threads.specs.Cell.{lost}
use Rattle.node_threads.specs.Leaving.{outlets_of}
use Rattle.node_threads.specs.Report.{AddsReports}
use Rattle.node_threads.proofs.host.comparing.compare_links.Given as goal

-- the outlets of the workers so far are reported
abbrev pub invariant-loop-outlets : goal.invariant-loop-outlets
invariant-loop-outlets g l = AddsReports (lost l.cell.since) l.cell.trace (outlets_of (take l.outlets-index l.workers)) [] l.links.items
