use Rattle.std.proofs.Common.{inr}
use Rattle.node_threads.proofs.GivingUp.{gives_up}
use Rattle.node_threads.proofs.host.shared.Shared.compare.Goals as goal

pub returns-in-Some-clause-sent : goal.returns-in-Some-clause-sent
returns-in-Some-clause-sent g c =
    let came = c.in-Some.ensures in
    inr (came.0, came.1, gives_up came.0 came.1 c.args.outlet.now c.give_up.new.self _ _ came.2 c.give_up.ensures)
