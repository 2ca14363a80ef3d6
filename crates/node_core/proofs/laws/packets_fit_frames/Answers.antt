use Rattle.node_core.proofs.Fitting.{turned_fits}
use Rattle.node_core.proofs.laws.packets_fit_frames.Goals as goal

pub returns : goal.returns
returns c core stimulus fits sound comes = turned_fits core fits sound stimulus comes
