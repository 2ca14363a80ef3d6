-- A scenario is refused in each form if it was not read.
use Rattle.std.proofs.Common.{◌≡◌, Err, rules}
use Rattle.simulation.specs.declared.error.SimulationError.TheVariants as program
use Rattle.scenario.specs.declared.error.ScenarioError.TheVariants.{Refused, OutOfMemory}
use Rattle.simulation.proofs.Oks.{fact_of_ok}
use Rattle.simulation.proofs.program.play_read.Goals as goal

pub returns-clause-refused : goal.returns-clause-refused
returns-clause-refused g c status =
    let found = c.in-Err-Refused-Refused in
    let is : c.write_outcome-ended.result ≡ Err (program.Refused (Refused found.place found.key)) = search rules in
    let read = c.write_outcome-ended.ensures.refused (Refused found.place found.key) is in
    (Refused found.place found.key, read, (λ same. let no : Refused found.place found.key ≡ OutOfMemory = same in cc))

pub returns-2-clause-played : goal.returns-2-clause-played
returns-2-clause-played g c status =
    let is_ok = (c.conclude.ensures.quiet status).1 in
    fact_of_ok c.write_outcome-ended.result _ is_ok c.write_outcome-ended.ensures.played

pub returns-2-clause-refused : goal.returns-2-clause-refused
returns-2-clause-refused g c status =
    let (fault, is, has_memory) = c.conclude.ensures.refused status in
    (fault, c.write_outcome-ended.ensures.refused fault is, has_memory)
