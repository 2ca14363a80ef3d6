-- A node that runs is asked.
use Rattle.std.proofs.Common.{◌∙◌, ap, refl, sym}
use Rattle.std.specs.Prelude.{option_copied}
use Rattle.simulation.proofs.Idling.{armed, stopped_timer}
use Rattle.simulation.proofs.play.idle_timer.Goals as goal

pub returns-in-Some-clause-idle : goal.returns-in-Some-clause-idle
returns-in-Some-clause-idle g c = (
  c.args.node.now,
  c.args.id.now,
  c.in-Some.core.now,
  refl,
  sym c.core.ensures ∙ ap option_copied c.in-Some.is,
  sym c.is_armed.ensures ∙ c.if-not-is_armed.true,
)

pub returns-in_default-clause-busy : goal.returns-in_default-clause-busy
returns-in_default-clause-busy g c none =
    armed c.args.group.now.group c.args.node.now c.args.id.now c.in-Some.core.now
    (sym c.core.ensures ∙ ap option_copied c.in-Some.is) (sym c.is_armed.ensures ∙ c.if-not-is_armed.false)

pub returns-in_default-2-clause-busy : goal.returns-in_default-2-clause-busy
returns-in_default-2-clause-busy g c none =
    stopped_timer c.args.group.now.group c.args.node.now c.args.id.now (sym c.core.ensures ∙ ap option_copied c.in_default.is)
