-- What is told of the output is told of the step.
use Rattle.std.proofs.Common.{ap, subst}
use Rattle.protocol.specs.Trace.{Step}
use Rattle.frames.specs.Frame.{Frame}
use Rattle.trace_merge.specs.Numbers.{AreFew}
use Rattle.trace_merge.proofs.stepping.tell_delivered.Goals as goal

pub returns : goal.returns
returns g c = subst AreFew (ap (λ (s : Step Frame). s.out.deliveries) c.step.view_is) c.tell_given.ensures
