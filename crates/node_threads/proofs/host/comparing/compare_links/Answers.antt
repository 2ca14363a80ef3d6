use Rattle.std.proofs.Common.{[]}
use Rattle.node_threads.specs.Cell.{lost}
use Rattle.node_threads.specs.Closing.{Tears}
use Rattle.node_threads.specs.Leaving.{outlets_in, outlets_of}
use Rattle.node_threads.proofs.Reporting.{adds_each, passed_on, tears_in_one}
use Rattle.node_threads.proofs.host.comparing.compare_links.Goals as goal

pub loop-outlets-preserved : goal.loop-outlets-preserved
loop-outlets-preserved g c =
    adds_each outlets_in (lost c.args.cell.now.since) c.args.cell.now.trace c.args.workers.now c.loop-outlets.outlets-index
    c.outlets-item.result [] _ _ c.loop-outlets-test.true c.outlets-item.is c.loop-outlets.invariant c.in_ok-report_worker.ensures.ok

pub returns-in_err-report_worker-clause-err : goal.returns-in_err-report_worker-clause-err
returns-in_err-report_worker-clause-err g c =
    let torn : Tears (lost c.args.cell.now.since) c.args.cell.now.trace (outlets_of c.args.workers.now) c.in_err-report_worker.field-0.0 =
    tears_in_one outlets_in (lost c.args.cell.now.since) c.args.cell.now.trace c.args.workers.now c.loop-outlets.outlets-index c.outlets-item.result
    c.in_err-report_worker.field-0.0 c.loop-outlets-test.true c.outlets-item.is c.loop-outlets.invariant.begun c.in_err-report_worker.ensures.err in
    passed_on (Tears (lost c.args.cell.now.since) c.args.cell.now.trace (outlets_of c.args.workers.now))
    c.from_residual.result c.in_err-report_worker.field-0.0 c.from_residual.ensures.1 torn
