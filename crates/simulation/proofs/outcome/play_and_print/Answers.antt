-- What was played is printed, even if the run ended early.
use Rattle.std.proofs.Common.{◌≡◌, subst}
use Rattle.world.specs.Group.{Logged}
use Rattle.frames.specs.Content.{frame_content}
use Rattle.frames.specs.Frame.{Frame}
use Rattle.node_core.specs.Plum.{Plum, plum_state}
use Rattle.node_core.specs.Steps.{PlumIsSpent, PlumStarts, PlumSteps}
use Rattle.simulation.specs.Play.{IsHalted, PlaysActions, PrintsGroup, Standing, delivered, empty_group}
use Rattle.simulation.specs.Rolls.{rolls_in, rolls_of}
use Rattle.simulation.specs.declared.play.TheConstants.{MAX_ARRIVALS}
use Rattle.simulation.proofs.Oks.{fact_of_err, fact_of_ok, on_ok_weaker}
use Rattle.simulation.proofs.outcome.play_and_print.Goals as goal

pub returns-clause-printed : goal.returns-clause-printed
returns-clause-printed g c =
    let after : Standing Plum Frame = record { rolls = rolls_in c.play-played.new.self.rolls; group = c.play-played.new.self.group } in
    let old : Standing Plum Frame = record { rolls = rolls_in c.new-player.result.rolls; group = c.new-player.result.group } in
    let begins : old ≡ record { rolls = rolls_of c.args.scenario.now.seed; group = empty_group c.args.scenario.now.limits } =
    λ i. record { rolls = c.new-player.ensures.rolls i; group = c.new-player.ensures.group i } in
    let Plays : Standing Plum Frame → Type 0 = λ from. PlaysActions plum_state PlumStarts PlumSteps MAX_ARRIVALS c.args.scenario.now.actions.items from after in
    let OfGroup : Logged Plum Frame → Type 0 =
    λ group. PrintsGroup plum_state frame_content group (delivered group) (g.W.Write.contents c.args.out.now) (g.W.Write.contents c.print-printed.new.out) in
    on_ok_weaker c.ended.result _ _ (λ both. record {
      group = after.group;
      rolls = after.rolls;
      played = subst Plays begins (rw c.as_slice.ensures.value at (fact_of_ok c.play-played.result _ both.0 c.play-played.ensures.ok));
      printed = subst OfGroup c.group.ensures (fact_of_ok c.print-printed.result _ both.1 c.print-printed.ensures);
    }) c.ended.ensures.ok

pub returns-clause-stopped : goal.returns-clause-stopped
returns-clause-stopped g c fault is has_memory =
    let both = c.ended.ensures.stopped fault is has_memory in
    let old : Standing Plum Frame = record { rolls = rolls_in c.new-player.result.rolls; group = c.new-player.result.group } in
    let begins : old ≡ record { rolls = rolls_of c.args.scenario.now.seed; group = empty_group c.args.scenario.now.limits } =
    λ i. record { rolls = c.new-player.ensures.rolls i; group = c.new-player.ensures.group i } in
    let Halts : Standing Plum Frame → Type 0 =
    λ from.
    IsHalted plum_state PlumStarts PlumSteps frame_content PlumIsSpent MAX_ARRIVALS c.args.scenario.now.actions.items fault from c.play-played.new.self.group in
    let OfGroup : Logged Plum Frame → Type 0 =
    λ group. PrintsGroup plum_state frame_content group (delivered group) (g.W.Write.contents c.args.out.now) (g.W.Write.contents c.print-printed.new.out) in
    record {
      group = c.play-played.new.self.group;
      halted = subst Halts begins (rw c.as_slice.ensures.value at (fact_of_err c.play-played.result _ fault both.0 c.play-played.ensures.stopped has_memory));
      printed = subst OfGroup c.group.ensures (fact_of_ok c.print-printed.result _ both.1 c.print-printed.ensures);
    }
