-- The text of what was played comes from its entry, the newest of the log.
use Rattle.std.proofs.Common.{◌++◌, ◌∙◌, ℕ, List, ap, append_assoc, string_bytes, subst}
use Rattle.trace_text.specs.Parts.{Parts}
use Rattle.trace_text.specs.Step.{step_text}
use Rattle.world.specs.Event.{Event}
use Rattle.simulation.specs.Traced.{label_text, TellsStep}
use Rattle.simulation.proofs.Oks.{on_ok_weaker}
use Rattle.simulation.proofs.tracing.step.push_played.Goals as goal

pub returns : goal.returns
returns g c =
    let (given, applied) = c.in_ok-replay.ensures in
    let label : List ℕ = label_text c.args.place c.args.number in
    let step : List ℕ = label ++ step_text c.in_ok-before.before c.replay.new.run applied.entry in
    let Tells : Event → Type 0 = λ e. TellsStep c.args.place e c.args.run.now c.replay.new.run step in
    let tells : Tells c.in_ok-event.event = record {
      number = c.args.number;
      given = given;
      applied = applied;
      written = ap (λ (ps : Parts). label ++ step_text ps c.replay.new.run applied.entry) c.in_ok-before.ensures;
    } in
    on_ok_weaker c.push_newest.result _ _ (λ told. (
      step,
      subst Tells c.in_ok-event.ensures tells,
      told
          ∙ ap (λ (t : List ℕ). t ++ step_text c.in_ok-before.before c.replay.new.run applied.entry) c.in_ok-push_label.ensures
          ∙ append_assoc (string_bytes c.args.text.now) label (step_text c.in_ok-before.before c.replay.new.run applied.entry),
    ))
    (c.push_newest.ensures c.args.run.now.log applied.entry applied.logged)
