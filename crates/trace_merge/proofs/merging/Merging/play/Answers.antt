-- The packets of the group are found.
use Rattle.std.proofs.Common.{subst, sym}
use Rattle.trace_merge.specs.FrameIds.{AreFound}
use Rattle.trace_merge.specs.Merging.{Merge}
use Rattle.trace_merge.proofs.merging.Merging.play.Goals as goal

pub play-requires : goal.play-requires
play-requires g c = subst (λ (m : Merge). AreFound m.world.group.sent m.frames) (sym c.self.view_is) c.requires
