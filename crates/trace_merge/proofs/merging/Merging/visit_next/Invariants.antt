use Rattle.std.proofs.Common.{◌≡◌}
use Rattle.std.specs.BTreeSet.{btree_set_len}
use Rattle.trace_merge.specs.Left.{AreLeft}
use Rattle.trace_merge.proofs.merging.Merging.visit_next.Given as goal

-- nothing was played so far
abbrev pub invariant-loop-visit : goal.invariant-loop-visit
invariant-loop-visit g l =
    record {
      same : l.self ≡ l.initial.self;
      left : AreLeft l.traces l.self.places l.left.runs;
    }

-- a visit less is to come
abbrev pub decreases-loop-visit : goal.decreases-loop-visit
decreases-loop-visit g l = btree_set_len l.visits.next
