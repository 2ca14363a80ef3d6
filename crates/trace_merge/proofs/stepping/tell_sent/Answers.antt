-- What is told of the output is told of the step.
use Rattle.std.proofs.Common.{ap, subst}
use Rattle.protocol.specs.Trace.{Step}
use Rattle.frames.specs.Frame.{Frame}
use Rattle.trace_merge.specs.Numbers.{AreShort}
use Rattle.trace_merge.proofs.stepping.tell_sent.Goals as goal

pub returns : goal.returns
returns g c = subst AreShort (ap (λ (s : Step Frame). s.out.sends) c.step.view_is) c.tell_opening.ensures
