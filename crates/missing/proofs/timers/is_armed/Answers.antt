use Rattle.std.proofs.Common.{sym, ap, ◌∙◌}
use Rattle.std.specs.Prelude.{is_some}
use Rattle.missing.proofs.TimerLemmas.{armed-place}
use Rattle.missing.proofs.timers.is_armed.Goals as goal

pub returns : goal.returns
returns g c = c.contains_key.ensures ∙ ap is_some (c.requires.0 c.args.id.now) ∙ sym (armed-place c.args.timers.now.slots.items c.args.id.now)
