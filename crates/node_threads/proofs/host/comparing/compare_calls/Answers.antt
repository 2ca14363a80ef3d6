use Rattle.std.specs.Prelude.{◌≡◌, None, Some, IfErr}
use Rattle.std.proofs.Common.{rules, subst}
use Rattle.node_threads.specs.Closing.{AreAlike, Mismatches}
use Rattle.node_threads.proofs.host.comparing.compare_calls.Goals as goal

pub returns-in-Some-clause-ok : goal.returns-in-Some-clause-ok
returns-in-Some-clause-ok g c =
    let is : Some c.in-Some.field-0 ≡ c.args.cell.now.since = search rules in
    subst (λ since. AreAlike since c.args.cell.now.trace.steps c.args.ports.now) is tt

pub returns-in-None-clause-err : goal.returns-in-None-clause-err
returns-in-None-clause-err g c = λ outlets.
    let is : None ≡ c.args.cell.now.since = search rules in
    subst (λ since. IfErr c.compare_ports.result (Mismatches since c.args.cell.now.trace c.args.ports.now outlets)) is
    (subst (λ trace. IfErr c.compare_ports.result (Mismatches None trace c.args.ports.now outlets)) c.trace.ensures (c.compare_ports.ensures.err outlets))
