use Rattle.std.proofs.Common.{◌≡◌, ◌++◌, List, length}
use Rattle.frames.specs.Cutting.{Begins}
use Rattle.frames.specs.Frame.{Frame}
use Rattle.links.proofs.pumping.give.Given as goal

abbrev pub invariant-loop-frame : goal.invariant-loop-frame
invariant-loop-frame g l =
    (frames : List Frame) × (g.S.Sink.taken l.sink ≡ g.S.Sink.taken l.fn.sink ++ frames) × Begins frames l.fn.cutter l.cutter
    × (g.S.Sink.refusals l.sink ≡ g.S.Sink.refusals l.fn.sink)

abbrev pub decreases-loop-frame : goal.decreases-loop-frame
decreases-loop-frame g l = length l.cutter
