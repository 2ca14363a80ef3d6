use Rattle.std.proofs.Common.{ℕ, List}
use Rattle.std.specs.Io.KnownBytes.{Appends}
use Rattle.simulation.specs.Traced.{TellsSteps}
use Rattle.simulation.proofs.tracing.write_steps.Given as goal

abbrev pub invariant-loop-place : goal.invariant-loop-place
invariant-loop-place g l =
    (steps : List ℕ) × TellsSteps l.group.limits l.group.log l.place l.run steps × Appends (g.W.Write.contents l.initial.out) (g.W.Write.contents l.out) steps
