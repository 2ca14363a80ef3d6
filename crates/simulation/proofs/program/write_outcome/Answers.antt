-- The scenario that was read is the one that is played.
use Rattle.std.proofs.lemmas.Result.{on_ok_weaker}
use Rattle.simulation.proofs.program.write_outcome.Goals as goal

pub returns-in-Ok-clause-played : goal.returns-in-Ok-clause-played
returns-in-Ok-clause-played g c =
    on_ok_weaker c.write_played.result (λ written. (c.in-Ok.scenario, c.in-Ok.is, written)) c.write_played.ensures.played
