use Rattle.std.proofs.Common.{◌≡◌}
use Rattle.trace_merge.specs.Left.{AreLeft}
use Rattle.trace_merge.specs.Merging.{IsMerging, remaining}
use Rattle.trace_merge.proofs.merging.Merging.play_all.Given as goal

-- what is played so far is a run
abbrev pub invariant-loop-left : goal.invariant-loop-left
invariant-loop-left g l =
    record {
      limits : l.self.world.limits ≡ l.initial.self.world.limits;
      merging : IsMerging l.initial.self.world.limits l.traces l.self;
      left : AreLeft l.traces l.self.places l.left.runs;
    }

-- each pass leaves less
abbrev pub decreases-loop-left : goal.decreases-loop-left
decreases-loop-left g l = remaining l.traces l.self.places
