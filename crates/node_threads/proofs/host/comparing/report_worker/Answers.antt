use Rattle.std.proofs.Common.{◌++◌, subst}
use Rattle.std.specs.Prelude.{IfErr, OnOk}
use Rattle.std.specs.Option.{option_to_list}
use Rattle.node_threads.specs.Cell.{lost}
use Rattle.node_threads.specs.Closing.{Tears}
use Rattle.node_threads.specs.Report.{AddsReports}
use Rattle.node_threads.proofs.Reporting.{adds_both, tears_last}
use Rattle.node_threads.proofs.host.comparing.report_worker.Goals as goal

pub returns-clause-ok : goal.returns-clause-ok
returns-clause-ok g c =
    let last = option_to_list c.args.outlets.now.last in
    subst (λ spent. OnOk c.report_last.result
    (AddsReports (lost c.args.cell.now.since) c.args.cell.now.trace (spent ++ last) c.args.links.now.items c.report_last.new.links.items))
    c.as_slice.ensures.value
    (adds_both (lost c.args.cell.now.since) c.args.cell.now.trace c.as_slice.result.now
    last _ _ _ c.report_last.result c.in_ok-report_each.ensures.ok c.report_last.ensures.ok)

pub returns-clause-err : goal.returns-clause-err
returns-clause-err g c =
    let last = option_to_list c.args.outlets.now.last in
    subst (λ spent. IfErr c.report_last.result (Tears (lost c.args.cell.now.since) c.args.cell.now.trace (spent ++ last))) c.as_slice.ensures.value
    (tears_last (lost c.args.cell.now.since) c.args.cell.now.trace c.as_slice.result.now
    last c.report_last.result c.in_ok-report_each.ensures.ok.begun c.report_last.ensures.err)
