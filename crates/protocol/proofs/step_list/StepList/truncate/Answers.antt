use Rattle.std.proofs.Common.{◌≡◌, ◌∙◌, ◌++◌, ◌-◌, ap, length, take}
use Rattle.protocol.specs.Segments.{joined}
use Rattle.protocol.proofs.Segments.{take_both}
use Rattle.protocol.proofs.step_list.StepList.truncate.Goals as goal

pub returns : goal.returns
returns g c =
    let end : c.end_of-end.result ≡ length (joined c.self.inside.parts.items) = c.end_of-end.ensures ∙ ap (λ xs. length (joined xs)) c.deref.ensures.value in
    let rest : c.saturating_sub.result ≡ c.args.len - length (joined c.self.inside.parts.items) = c.saturating_sub.ensures ∙ ap (λ n. c.args.len - n) end in
    ap (λ xs. xs ++ c.truncate.new.self) c.cut.ensures.steps ∙ ap (λ zs. take c.args.len (joined c.self.inside.parts.items) ++ zs) c.truncate.ensures
    ∙ take_both c.args.len c.saturating_sub.result (joined c.self.inside.parts.items) c.self.inside.tail rest ∙ ap (take c.args.len) c.self.view_is
