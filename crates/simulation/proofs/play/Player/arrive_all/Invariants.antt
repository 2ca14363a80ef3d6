use Rattle.simulation.specs.Play.{Drains}
use Rattle.simulation.specs.Rolls.{rolls_in}
use Rattle.simulation.proofs.play.Player.arrive_all.Given as goal

abbrev pub invariant-loop : goal.invariant-loop
invariant-loop g l =
    Drains g.C.Core.state g.C.Core.starts g.C.Core.steps l.counter
    (record { rolls = rolls_in l.initial.self.rolls; group = l.initial.self.group })
    (record { rolls = rolls_in l.self.rolls; group = l.self.group })
