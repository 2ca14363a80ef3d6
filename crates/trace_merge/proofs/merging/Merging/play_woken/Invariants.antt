use Rattle.std.proofs.Common.{◌≡◌}
use Rattle.trace_merge.specs.Left.{AreLeft}
use Rattle.trace_merge.specs.Merging.{IsMerging, remaining}
use Rattle.trace_merge.proofs.merging.Merging.play_woken.Given as goal

-- what is played so far is a run
abbrev pub invariant-loop-visits : goal.invariant-loop-visits
invariant-loop-visits g l =
    record {
      limits : l.self.world.limits ≡ l.initial.self.world.limits;
      merging : IsMerging l.initial.self.world.limits l.traces l.self;
      left : AreLeft l.traces l.self.places l.left.runs;
    }

-- each visit that plays something leaves less
abbrev pub decreases-loop-visits : goal.decreases-loop-visits
decreases-loop-visits g l = remaining l.traces l.self.places
