use Rattle.node_threads.specs.Closing.{Mismatches}
use Rattle.node_threads.specs.Leaving.{outlets_of}
use Rattle.node_threads.proofs.Reporting.{matches_of, mismatch_in, ok_turned, passed_on}
use Rattle.node_threads.proofs.host.comparing.compare.Goals as goal

pub returns-in_err-compare_calls-clause-err : goal.returns-in_err-compare_calls-clause-err
returns-in_err-compare_calls-clause-err g c =
    passed_on (Mismatches c.args.cell.now.since c.args.cell.now.trace c.args.ports.now (outlets_of c.args.workers.now)) c.from_residual.result
    c.in_err-compare_calls.field-0.0 c.from_residual.ensures.1 (c.in_err-compare_calls.ensures.err (outlets_of c.args.workers.now))

pub returns-clause-ok : goal.returns-clause-ok
returns-clause-ok g c =
    ok_turned _ _ c.compare_links.result c.compare_links.ensures.ok (λ links adds.
    matches_of c.args.cell.now.since c.args.cell.now.trace c.args.ports.now (outlets_of c.args.workers.now) links.items c.in_ok-compare_calls.ensures.ok adds)

pub returns-clause-err : goal.returns-clause-err
returns-clause-err g c =
    mismatch_in c.args.cell.now.since c.args.cell.now.trace c.args.ports.now
    (outlets_of c.args.workers.now) c.compare_links.result c.in_ok-compare_calls.ensures.ok c.compare_links.ensures.err
