-- How it spread, and then its depth.
use Rattle.std.proofs.Common.{refl}
use Rattle.std.proofs.lemmas.Result.{on_ok_weaker}
use Rattle.trace_text.proofs.Texts.{joined}
use Rattle.trace_text.proofs.summary.push_message.Goals as goal

pub returns : goal.returns
returns g c = on_ok_weaker c.push_depth.result (λ deep. (deep.0, deep.1, joined _ _ _ _ _ _ deep.2 c.in_ok-push_spread.ensures refl)) c.push_depth.ensures
