use Rattle.std.proofs.Common.{◌≡◌, drop, length, take}
use Rattle.std.specs.Prelude.{reverse}
use Rattle.world.specs.History.{incarnation_of}
use Rattle.trace_merge.specs.Projection.{first_number, projection}
use Rattle.trace_merge.proofs.projection.find.Given as goal

-- what has been found is the run's trace in the log so far
abbrev pub invariant-loop-at : goal.invariant-loop-at
invariant-loop-at g l =
    (l.found.origin ≡ l.fn.origin)
    × (l.found.last ≡ incarnation_of l.fn.origin.name (reverse (take l.at l.log)))
    × (l.found.trace ≡ projection l.fn.origin l.sent (first_number (length l.sent) (drop l.at l.log)) (reverse (take l.at l.log)))
