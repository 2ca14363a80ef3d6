-- If there was no error, all was played, and what was written is the run of the group that played it.
use Rattle.std.proofs.Common.{◌≡◌, subst}
use Rattle.frames.specs.Frame.{Frame}
use Rattle.node_core.specs.Plum.{Plum, plum_state}
use Rattle.node_core.specs.Steps.{PlumStarts, PlumSteps}
use Rattle.world.specs.Group.{Logged}
use Rattle.simulation.specs.Traced.{TellsGroup}
use Rattle.simulation.specs.Play.{PlaysActions, Standing, empty_group}
use Rattle.simulation.specs.Rolls.{rolls_in, rolls_of}
use Rattle.simulation.specs.declared.play.TheConstants.{MAX_ARRIVALS}
use Rattle.simulation.proofs.Oks.{fact_of_ok, on_ok_weaker}
use Rattle.simulation.proofs.outcome.play_and_trace.Goals as goal

pub returns-clause-traced : goal.returns-clause-traced
returns-clause-traced g c =
    let after : Standing Plum Frame = record { rolls = rolls_in c.play-played.new.self.rolls; group = c.play-played.new.self.group } in
    let old : Standing Plum Frame = record { rolls = rolls_in c.new-player.result.rolls; group = c.new-player.result.group } in
    let begins : old ≡ record { rolls = rolls_of c.args.scenario.now.seed; group = empty_group c.args.scenario.now.limits } =
    λ i. record { rolls = c.new-player.ensures.rolls i; group = c.new-player.ensures.group i } in
    let Plays : Standing Plum Frame → Type 0 = λ from. PlaysActions plum_state PlumStarts PlumSteps MAX_ARRIVALS c.args.scenario.now.actions.items from after in
    let OfGroup : Logged Plum Frame → Type 0 =
    λ group. TellsGroup group (g.W.Write.contents c.args.out.now) (g.W.Write.contents c.write_trace-traced.new.out) in
    on_ok_weaker c.ended.result _ _ (λ both. record {
      group = after.group;
      rolls = after.rolls;
      played = subst Plays begins (rw c.as_slice.ensures.value at (fact_of_ok c.play-played.result _ both.0 c.play-played.ensures.ok));
      told = subst OfGroup c.group.ensures (fact_of_ok c.write_trace-traced.result _ both.1 c.write_trace-traced.ensures);
    }) c.ended.ensures.ok
