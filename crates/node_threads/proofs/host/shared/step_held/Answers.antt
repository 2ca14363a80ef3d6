use Rattle.std.proofs.Common.{refl}
use Rattle.node_threads.proofs.host.shared.step_held.Goals as goal

pub returns : goal.returns
returns g c = record { old = _; new = _; returns = record { shown = _; shows = refl; left = _; met = c.call-answer.ensures; leaves = refl } }
