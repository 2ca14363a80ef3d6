use Rattle.std.specs.BTreeMap.{btree_map_len}
use Rattle.trace_merge.specs.Left.{AreLeft}
use Rattle.trace_merge.proofs.readiness.awaited_run.Given as goal

-- what is taken out is played out
abbrev pub invariant-loop-run : goal.invariant-loop-run
invariant-loop-run g l = AreLeft l.traces l.places l.left.runs

-- fewer runs are left each time
abbrev pub decreases-loop-run : goal.decreases-loop-run
decreases-loop-run g l = btree_map_len l.left.runs
