use Rattle.std.proofs.Common.{◌≡◌, ◌++◌, List}
use Rattle.node_names.specs.Limits.{Limits}
use Rattle.protocol.specs.Replay.{Replays}
use Rattle.step_records.specs.declared.reader.Entry.{Entry}
use Rattle.record_merge.specs.Replaying.{GivesAll, bytes_left, stimuli_in, stimuli_of}
use Rattle.record_merge.proofs.steps.take_all.Given as goal

-- the trace replays, and has the stimuli of the entries so far
abbrev pub invariant-entries : goal.invariant-entries
invariant-entries g l =
    ((limits : Limits) → Replays g.C.Core.starts g.C.Core.steps limits l.fn.trace l.fn.core → Replays g.C.Core.starts g.C.Core.steps limits l.trace l.core)
    × ((all : List Entry) × GivesAll l.fn.entries all l.entries × (stimuli_of l.trace.steps ≡ stimuli_of l.fn.trace.steps ++ stimuli_in all))
    × (l.trace ≡ record l.fn.trace { steps = l.trace.steps })

abbrev pub decreases-entries : goal.decreases-entries
decreases-entries g l = bytes_left l.entries
