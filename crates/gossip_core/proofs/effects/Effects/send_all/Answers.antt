-- The packets are appended, whichever way the effects are written.
use Rattle.std.proofs.Common.{◌≡◌, ◌∙◌, ◌++◌, ap, subst}
use Rattle.gossip_core.specs.Effects.{Effects}
use Rattle.gossip_core.proofs.effects.Effects.send_all.Goals as goal

pub returns-clause-ok : goal.returns-clause-ok
returns-clause-ok g c =
    let sent : c.append.new.self ≡ c.self.inside.sends ++ c.args.sends =
    c.in_ok-append.ensures.ok ∙ ap (λ more. c.self.inside.sends ++ more) c.into_vec.ensures in
    subst (λ (before : Effects). ◌≡◌ {A = Effects} (record { sends = c.append.new.self; delivered = c.self.inside.delivered })
    (record before { sends = before.sends ++ c.args.sends }))
    c.self.view_is
    (λ i. record { sends = sent i; delivered = c.self.inside.delivered })
