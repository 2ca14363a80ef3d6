-- What is told of the list is told of the output.
use Rattle.std.proofs.Common.{◌∙◌, ap, subst}
use Rattle.protocol.specs.Output.{Output}
use Rattle.frames.specs.Frame.{Frame}
use Rattle.trace_merge.specs.Numbers.{AreShort}
use Rattle.trace_merge.proofs.stepping.tell_opening.Goals as goal

pub returns : goal.returns
returns g c = subst AreShort (c.as_slice.ensures ∙ ap (λ (o : Output Frame). o.sends) c.opening.view_is) c.tell_numbers.ensures
