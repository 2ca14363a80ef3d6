-- All is played.
use Rattle.std.proofs.Common.{ap, subst, sym}
use Rattle.world.specs.Headline.{Headline}
use Rattle.frames.specs.Content.{frame_content}
use Rattle.node_core.specs.Plum.{plum_state}
use Rattle.trace_merge.specs.Merging.{IsMerged, Merge}
use Rattle.trace_merge.proofs.EndLemmas.{ends}
use Rattle.trace_merge.proofs.merging.Merging.into_events.Goals as goal

pub returns : goal.returns
returns g c =
    subst (IsMerged c.args.self.world.limits c.args.traces.now) (ap (λ (m : Merge). m.events) (sym c.self.view_is))
    (ends c.args.self.world.limits c.args.traces.now c.args.self c.requires.distinct c.requires.merging c.requires.out
    (subst (λ (m : Merge). Headline plum_state frame_content m.world) c.self.view_is c.headline.ensures))
