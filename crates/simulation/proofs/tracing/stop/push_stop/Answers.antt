-- What is printed for a refused event.
use Rattle.std.proofs.Common.{◌++◌, refl}
use Rattle.simulation.proofs.Oks.{on_ok_weaker}
use Rattle.trace_text.proofs.Texts.{joined}
use Rattle.simulation.proofs.tracing.stop.push_stop.Goals as goal

pub returns-in_ok-push_event-in-Some-Refused : goal.returns-in_ok-push_event-in-Some-Refused
returns-in_ok-push_event-in-Some-Refused g c =
    let (event, appended) = c.in_ok-push_event-in-Some-Refused.ensures in
    on_ok_weaker c.push_refusal.result _ _ (λ told. (event ++ told.0, joined _ _ _ _ _ _ told.1 appended refl)) c.push_refusal.ensures
