-- What a call sends and delivers is appended, or taken back.
use Rattle.std.proofs.Common.{◌≡◌, ◌∙◌, ◌++◌, ap, length, take}
use Rattle.std.proofs.Math.Seq.{take-append_seam}
use Rattle.gossip_core.specs.Effects.{Effects}
use Rattle.gossip_core.specs.State.{GossipState}
use Rattle.gossip_core.specs.Table.{Outcome, Gives, latest}

pub gives : (done : Outcome) (before given mid after : Effects) (new : GossipState) →
    new ≡ done.state →
    given ≡ record { sends = done.sends; delivered = done.delivered } →
    mid ≡ record before { sends = before.sends ++ given.sends } →
    after ≡ record mid { delivered = latest mid.delivered given.delivered } →
    Gives done before new after
gives done before given mid after new leaves is_given is_mid is_after =
    record {
      leaves = leaves;
      sent = ap (λ (e : Effects). e.sends) is_after ∙ ap (λ (e : Effects). e.sends) is_mid ∙ ap (λ (e : Effects). before.sends ++ e.sends) is_given;
      delivers =
          ap (λ (e : Effects). e.delivered) is_after
          ∙ ap (λ (e : Effects). latest e.delivered given.delivered) is_mid
          ∙ ap (λ (e : Effects). latest before.delivered e.delivered) is_given;
    }

pub taken_back : (before given mid after : Effects) →
    mid ≡ record before { sends = before.sends ++ given.sends } →
    after ≡ record mid { sends = take (length before.sends) mid.sends } →
    after ≡ before
taken_back before given mid after is_mid is_after =
    is_after
    ∙ ap (λ (e : Effects). record e { sends = take (length before.sends) e.sends }) is_mid
    ∙ ap (λ sends. record before { sends = sends }) (take-append_seam before.sends given.sends)
