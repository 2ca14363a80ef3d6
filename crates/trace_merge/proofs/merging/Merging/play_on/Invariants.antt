use Rattle.trace_merge.specs.Left.{AreLeft}
use Rattle.trace_merge.specs.Merging.{remaining}
use Rattle.trace_merge.specs.Steps.{Moves}
use Rattle.trace_merge.proofs.merging.Merging.play_on.Given as goal

-- something was played so far, or nothing changed
abbrev pub invariant-loop-moved : goal.invariant-loop-moved
invariant-loop-moved g l =
    record {
      moves : Moves l.traces l.moved l.initial.self l.self;
      left : AreLeft l.traces l.self.places l.left.runs;
    }

-- each step leaves less
abbrev pub decreases-loop-moved : goal.decreases-loop-moved
decreases-loop-moved g l = remaining l.traces l.self.places
