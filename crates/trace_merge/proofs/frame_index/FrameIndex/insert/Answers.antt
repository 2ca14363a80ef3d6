-- What is found is what was found, or the packet that was added.
use Rattle.trace_merge.proofs.frame_index.FrameIndex.insert.Goals as goal

pub returns : goal.returns
returns g c = λ other. c.in_ok-insert.ensures.updates.0 other
