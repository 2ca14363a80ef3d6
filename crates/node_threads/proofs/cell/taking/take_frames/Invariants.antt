use Rattle.std.proofs.Common.{◌≡◌, ◌++◌, length}
use Rattle.node_threads.specs.Taking.{TakesFrames}
use Rattle.node_threads.proofs.cell.taking.take_frames.Given as goal

-- the frames so far were taken, and counted
abbrev pub invariant-loop-note : goal.invariant-loop-note
invariant-loop-note g l =
    (goal.iterator-loop-note g).can_next l.note-iterator ×
    (goal.iterator-loop-note g).is_finite l.note-iterator ×
    (l.yielded ++ l.note-iterator.rest.items ≡ l.fn.frames.items) ×
    (l.taken ≡ length l.yielded) ×
    TakesFrames g.C.NodeCore.state g.C.NodeCore.steps g.C.NodeCore.is_spent
    (g.R.Rng.stream l.fn.generator) l.fn.cell l.fn.learnt l.yielded l.cell l.learnt (g.R.Rng.stream l.generator)
