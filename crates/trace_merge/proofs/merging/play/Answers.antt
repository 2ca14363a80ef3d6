-- The packets before the event are found, and then those that it sent.
use Rattle.std.proofs.Common.{◌≡◌, ◌∙◌, ◌++◌, List, ap, length, subst, sym, take}
use Rattle.std.proofs.Math.Seq.{take-append_seam}
use Rattle.world.specs.declared.packet.Packet.{Packet}
use Rattle.frames.specs.Frame.{Frame}
use Rattle.node_core.specs.Plum.{plum_state}
use Rattle.node_core.specs.Steps.{PlumStarts, PlumSteps}
use Rattle.trace_merge.specs.FrameIds.{AreFound}
use Rattle.trace_merge.proofs.Stable.{sent_grows}
use Rattle.trace_merge.proofs.merging.play.Goals as goal

pub note-requires : goal.note-requires
note-requires g c =
    let applied = c.in_ok-play.ensures.applied.1 in
    let grows : (more : List (Packet Frame)) × (c.play.new.self.group.sent ≡ c.args.world.now.group.sent ++ more) =
    sent_grows plum_state PlumStarts PlumSteps c.args.world.now.limits c.args.world.now.group
    applied.entry c.play.new.self.group applied.entry.event applied.happened.1
    in
    let first : take (length c.sent-first.result.now) c.sent.result.now ≡ c.args.world.now.group.sent =
    ap (λ xs. take (length xs) c.sent.result.now) c.sent-first.ensures
    ∙ ap (take (length c.args.world.now.group.sent)) (c.sent.ensures ∙ grows.1)
    ∙ take-append_seam c.args.world.now.group.sent grows.0
    in
    subst (λ xs. AreFound xs c.args.frames.now.numbers.entries) (sym first) c.requires

pub returns-clause-found : goal.returns-clause-found
returns-clause-found g c = subst (λ xs. AreFound xs c.note.new.frames.numbers.entries) c.sent.ensures c.in_ok-note.ensures
