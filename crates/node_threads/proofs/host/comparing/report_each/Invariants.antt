use Rattle.std.proofs.Common.{take}
use Rattle.node_threads.specs.Cell.{lost}
use Rattle.node_threads.specs.Report.{AddsReports}
use Rattle.node_threads.proofs.host.comparing.report_each.Given as goal

-- the outlets so far are reported
abbrev pub invariant-loop-outlet : goal.invariant-loop-outlet
invariant-loop-outlet g l = AddsReports (lost l.cell.since) l.cell.trace (take l.outlet-index l.outlets) l.fn.links.items l.links.items
