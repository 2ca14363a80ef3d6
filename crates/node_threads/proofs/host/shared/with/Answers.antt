use Rattle.std.proofs.Common.{refl}
use Rattle.node_threads.proofs.host.shared.with.Goals as goal

pub returns-in-Some : goal.returns-in-Some
returns-in-Some g c = record { old = _; new = _; returns = record { shown = _; shows = refl; left = _; met = c.call.ensures; leaves = refl } }
