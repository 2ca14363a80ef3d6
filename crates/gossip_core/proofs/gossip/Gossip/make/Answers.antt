-- What was appended is taken back.
use Rattle.std.proofs.Common.{◌∙◌, ap, length, take}
use Rattle.gossip_core.specs.Effects.{Effects}
use Rattle.gossip_core.proofs.EffectLemmas.{taken_back}
use Rattle.gossip_core.proofs.gossip.Gossip.make.Goals as goal

pub returns-in-Err-clause-err : goal.returns-in-Err-clause-err
returns-in-Err-clause-err g c = (
  c.in-Err.ensures.err,
  taken_back c.args.out.now (record { sends = c.given.inside.sends; delivered = c.given.inside.delivered }) c.send_all.new.self c.keep_first.new.self
      c.in_ok-send_all.ensures.ok
      (c.keep_first.ensures ∙ ap (λ n. record c.send_all.new.self { sends = take n c.send_all.new.self.sends })
      (c.len-kept.ensures ∙ ap (λ (e : Effects). length e.sends) c.out.view_is)),
)
