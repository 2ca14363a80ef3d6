-- The label is the message and how it ends.
use Rattle.std.proofs.Common.{refl}
use Rattle.simulation.proofs.Oks.{on_ok_weaker}
use Rattle.trace_text.proofs.Texts.{joined}
use Rattle.simulation.proofs.graph.parts.push_title.Goals as goal

pub returns : goal.returns
returns g c = on_ok_weaker c.push_rest.result _ _ (λ told. joined _ _ _ _ _ _ told c.in_ok-write.ensures.bytes refl) c.push_rest.ensures
