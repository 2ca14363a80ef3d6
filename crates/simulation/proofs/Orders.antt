-- Origins and ids are totally ordered, and tie only if they are equal.
use Rattle.std.specs.Prelude.{◌≡◌}
use Rattle.std.specs.declared.cmp.Ordering.TheVariants.{Equal}
use Rattle.std.specs.Cmp.{IsTotalOrder, nat_cmp_total, then_total, on_total, both_tied, unsigned_ties}
use Rattle.std.specs.Cmp.Lexicographic.{nat_list_cmp_total, texts_ties}
use Rattle.std.specs.Ordering.{is_eq}
use Rattle.std.proofs.Common.{ap, ◌∙◌}
use Rattle.node_names.specs.Same.{same_origin-Decides}
use Rattle.node_names.specs.declared.ids.Origin.{Origin}
use Rattle.node_names.specs.declared.ids.MsgId.{MsgId}
use Rattle.simulation.specs.Lines.{msg_id_cmp, origin_cmp}

pub origin_total : IsTotalOrder origin_cmp
origin_total = then_total (on_total (λ (o : Origin). o.name) nat_list_cmp_total) (on_total (λ (o : Origin). o.incarnation.0) nat_cmp_total)

pub msg_id_total : IsTotalOrder msg_id_cmp
msg_id_total = then_total (on_total (λ (id : MsgId). id.origin) origin_total) (on_total (λ (id : MsgId). id.seq) nat_cmp_total)

pub origin_antisymmetric : (a b : Origin) → origin_cmp a b ≡ Equal → a ≡ b
origin_antisymmetric a b e =
    (same_origin-Decides a b).0 (both_tied _ _ _ _ (texts_ties a.name b.name) (unsigned_ties a.incarnation.0 b.incarnation.0) ∙ ap is_eq e)
