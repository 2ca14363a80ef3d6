-- A lenient reader refuses what is no scenario alone.
use Rattle.simulation.proofs.program.play.Goals as goal

pub returns-2-clause-refused : goal.returns-2-clause-refused
returns-2-clause-refused g c status lenient = c.play_known.ensures.refused status
