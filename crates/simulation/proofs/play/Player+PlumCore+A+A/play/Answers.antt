-- The loop plays one action more, or halts in it.
use Rattle.std.proofs.Common.{◌∙◌, ap, length, refl}
use Rattle.std.proofs.lemmas.Option.{slice_get_read}
use Rattle.node_core.specs.Plum.{plum_state}
use Rattle.node_core.specs.Steps.{PlumStarts, PlumSteps}
use Rattle.simulation.specs.Play.{fault_of}
use Rattle.simulation.specs.declared.play.TheConstants.{MAX_ARRIVALS}
use Rattle.simulation.proofs.Plays.{PlaysActions-more}
use Rattle.simulation.specs.Rolls.{rolls_in}
use Rattle.simulation.proofs.play.Player+PlumCore+A+A.play.Goals as goal

pub returns-in-Err-clause-stopped : goal.returns-in-Err-clause-stopped
returns-in-Err-clause-stopped g c has_memory = (
  c.loop-number.number,
  c.in-Err.halt,
  c.at.ensures,
  record {
    action = c.index-actions-number.result;
    before = record { rolls = rolls_in c.loop-number.self.rolls; group = c.loop-number.self.group };
    listed =
        slice_get_read c.args.actions.now
        (length c.args.actions.now) c.loop-number.number c.index-actions-number.result refl c.loop-number-test.true c.index-actions-number.is;
    played = c.loop-number.invariant;
    halted = c.in-Err.ensures.halted (λ memory. has_memory (c.at.ensures ∙ ap (fault_of c.loop-number.number) memory));
  },
)

pub loop-number-preserved : goal.loop-number-preserved
loop-number-preserved g c =
    PlaysActions-more plum_state PlumStarts PlumSteps MAX_ARRIVALS c.args.actions.now c.loop-number.number c.index-actions-number.result
    (record { rolls = rolls_in c.args.self.now.rolls; group = c.args.self.now.group })
    (record { rolls = rolls_in c.loop-number.self.rolls; group = c.loop-number.self.group })
    (record { rolls = rolls_in c.play_action.new.self.rolls; group = c.play_action.new.self.group })
    c.loop-number-test.true c.index-actions-number.is c.loop-number.invariant c.in_default.ensures.ok
