use Rattle.trace_merge.proofs.LeftLemmas.{AreNamed, AreThere}
use Rattle.trace_merge.proofs.unfinished.Unfinished.new.Given as goal

-- the runs of the traces so far are there, each with the index of its trace
abbrev pub invariant-loop-at : goal.invariant-loop-at
invariant-loop-at g l =
    record {
      named : AreNamed l.traces l.runs;
      there : AreThere l.traces l.at l.runs;
    }
