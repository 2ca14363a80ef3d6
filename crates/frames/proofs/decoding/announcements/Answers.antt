use Rattle.std.proofs.Common.{arith}
use Rattle.frames.proofs.Counts.{announcements_after}
use Rattle.frames.proofs.decoding.announcements.Goals as goal

pub returns : goal.returns
returns g c = rw (announcements_after _ _ c.from-count.result _ c.in_ok-word16.ensures (omega arith) (omega arith) (omega arith)) c.list.ensures
