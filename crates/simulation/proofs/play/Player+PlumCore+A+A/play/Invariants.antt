use Rattle.std.proofs.Common.{take}
use Rattle.node_core.specs.Plum.{plum_state}
use Rattle.node_core.specs.Steps.{PlumStarts, PlumSteps}
use Rattle.simulation.specs.Play.{PlaysActions}
use Rattle.simulation.specs.declared.play.TheConstants.{MAX_ARRIVALS}
use Rattle.simulation.specs.Rolls.{rolls_in}
use Rattle.simulation.proofs.play.Player+PlumCore+A+A.play.Given as goal

abbrev pub invariant-loop-number : goal.invariant-loop-number
invariant-loop-number g l =
    PlaysActions plum_state PlumStarts PlumSteps MAX_ARRIVALS (take l.number l.actions)
    (record { rolls = rolls_in l.initial.self.rolls; group = l.initial.self.group }) (record { rolls = rolls_in l.self.rolls; group = l.self.group })
