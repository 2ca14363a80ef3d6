use Rattle.std.specs.Prelude.{IfErr, IfOk}
use Rattle.std.proofs.Common.{◌∙◌, subst}
use Rattle.node_threads.specs.Closing.{Matches, Mismatches}
use Rattle.node_threads.specs.Leaving.{outlets_of}
use Rattle.node_threads.proofs.host.closing.compare_records.Goals as goal

pub returns-clause-ok : goal.returns-clause-ok
returns-clause-ok g c =
    subst (λ ports. IfOk c.compare.result (λ links. Matches c.args.cell.now.since c.args.cell.now.trace ports (outlets_of c.args.workers.now) links.items))
    (c.as_slice.ensures.value ∙ c.in_ok-calls.ensures) c.compare.ensures.ok

pub returns-clause-err : goal.returns-clause-err
returns-clause-err g c =
    subst (λ ports. IfErr c.compare.result (λ mismatch. Mismatches c.args.cell.now.since c.args.cell.now.trace ports (outlets_of c.args.workers.now) mismatch))
    (c.as_slice.ensures.value ∙ c.in_ok-calls.ensures) c.compare.ensures.err
