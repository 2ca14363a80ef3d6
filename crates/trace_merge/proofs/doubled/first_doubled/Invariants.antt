use Rattle.std.proofs.Common.{◌≡◌, true}
use Rattle.std.specs.List.{list_any}
use Rattle.node_names.specs.Same.{same_origin}
use Rattle.node_names.specs.declared.ids.Origin.{Origin}
use Rattle.trace_merge.proofs.DistinctLemmas.{AreDistinctBefore, AreSeen, IsOfSeen}
use Rattle.trace_merge.proofs.doubled.first_doubled.Given as goal

-- the runs so far are those that are seen, and no two are the same
abbrev pub invariant-loop-trace : goal.invariant-loop-trace
invariant-loop-trace g l =
    record {
      seen : AreSeen l.traces l.trace-index l.seen.keys;
      known : (o : Origin) → list_any (same_origin o) l.seen.keys ≡ true → IsOfSeen l.traces l.trace-index o;
      distinct : AreDistinctBefore l.traces l.trace-index;
    }
