use Rattle.std.proofs.Common.{◌≡◌, ◌-◌, ◌∙◌, List, Some, ap, length, take}
use Rattle.protocol.specs.Trace.{Step}
use Rattle.frames.specs.Frame.{Frame}
use Rattle.wire_node.specs.Recording.{Noted}
use Rattle.wire_node.proofs.Lasts.{without_last}
use Rattle.wire_node.proofs.recorded.RecordedRecord.take_back.Goals as goal

pub returns : goal.returns
returns g c before step e =
    let r = c.self.inside in
    let n : Noted = record { opening = r.opening; first = r.first; steps = r.steps } in
    let gone : c.truncate.new.self ≡ take (length r.steps - 1) r.steps =
    c.truncate.ensures ∙ ap (λ k. take k r.steps) (c.saturating_sub-last.ensures ∙ ap (λ k. k - 1) c.len.ensures) in
    ap (λ (s : List (Step Frame)). Some (record { opening = r.opening; first = r.first; steps = s })) gone
    ∙ without_last n before step (ap Some c.self.view_is ∙ e)
