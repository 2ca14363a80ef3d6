use Rattle.node_threads.specs.Cell.{lost}
use Rattle.node_threads.specs.Closing.{Tears}
use Rattle.node_threads.proofs.Reporting.{adds_all, adds_none, adds_one, passed_on, tears_at}
use Rattle.node_threads.proofs.host.comparing.report_each.Goals as goal

pub loop-outlet-init : goal.loop-outlet-init
loop-outlet-init g c = adds_none (lost c.args.cell.now.since) c.args.cell.now.trace c.args.links.now.items

pub loop-outlet-preserved : goal.loop-outlet-preserved
loop-outlet-preserved g c =
    adds_one (lost c.args.cell.now.since) c.args.cell.now.trace c.args.outlets.now c.loop-outlet.outlet-index
    c.outlet-item.result _ _ _ c.loop-outlet-test.true c.outlet-item.is c.loop-outlet.invariant c.in_ok-report_one.ensures.ok

pub returns-in_err-report_one-clause-err : goal.returns-in_err-report_one-clause-err
returns-in_err-report_one-clause-err g c =
    let torn : Tears (lost c.args.cell.now.since) c.args.cell.now.trace c.args.outlets.now c.in_err-report_one.field-0.0 =
    tears_at (lost c.args.cell.now.since) c.args.cell.now.trace c.args.outlets.now c.loop-outlet.outlet-index c.outlet-item.result
    c.in_err-report_one.field-0.0 c.loop-outlet-test.true c.outlet-item.is c.loop-outlet.invariant.begun c.in_err-report_one.ensures.err in
    passed_on (Tears (lost c.args.cell.now.since) c.args.cell.now.trace c.args.outlets.now)
    c.from_residual.result c.in_err-report_one.field-0.0 c.from_residual.ensures.1 torn

pub returns-clause-ok : goal.returns-clause-ok
returns-clause-ok g c =
    adds_all (lost c.args.cell.now.since) c.args.cell.now.trace c.args.outlets.now
    c.loop-outlet.outlet-index _ _ c.loop-outlet-test.false c.loop-outlet.invariant
