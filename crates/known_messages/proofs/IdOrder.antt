-- The order of ids tells apart just those that differ.
use Rattle.std.specs.Prelude.{◌≡◌, ◌||◌, List, [], ◌∷◌, refl}
use Rattle.std.specs.Cmp.{IsTotalOrder, nat_cmp_total, then_total, on_total, both_tied, unsigned_ties}
use Rattle.std.specs.Cmp.Lexicographic.{nat_list_cmp_total, texts_ties}
use Rattle.std.specs.FinSet as set
use Rattle.std.specs.List.{list_any}
use Rattle.std.specs.Ordering.{eq_by_cmp, is_eq}
use Rattle.std.proofs.Common.{ap, ◌∙◌, sym}
use Rattle.node_names.specs.Order.{id_cmp}
use Rattle.node_names.specs.Same.{same_id, same_id-Decides, has_id}
use Rattle.node_names.specs.declared.ids.Origin.{Origin}
use Rattle.node_names.specs.declared.ids.MsgId.{MsgId}

pub id_total : IsTotalOrder id_cmp
id_total =
    then_total (on_total (λ (id : MsgId). id.origin)
    (then_total (on_total (λ (o : Origin). o.name) nat_list_cmp_total) (on_total (λ (o : Origin). o.incarnation.0) nat_cmp_total)))
    (on_total (λ (id : MsgId). id.seq) nat_cmp_total)

pub id_ties : (a b : MsgId) → same_id a b ≡ is_eq (id_cmp a b)
id_ties a b =
    both_tied _ _ _ _ (both_tied _ _ _ _ (texts_ties a.origin.name b.origin.name) (unsigned_ties a.origin.incarnation.0 b.origin.incarnation.0))
    (unsigned_ties a.seq b.seq)

pub id_antisymmetric : set.IsAntisymmetric id_cmp
id_antisymmetric a b e = (same_id-Decides a b).0 (id_ties a b ∙ ap is_eq e)

-- a set made of a list has what the list has
pub contains-ids : (ids : List MsgId) (id : MsgId) → set.contains (set.from_list {R = id_cmp} ids) id ≡ has_id ids id
contains-ids ids id = set.contains-from_list id_total ids id ∙ go ids
  where
    go : (others : List MsgId) → list_any (eq_by_cmp id_cmp id) others ≡ has_id others id
    go [] = refl
    go (other ∷ others) = ap (λ b. b || list_any (eq_by_cmp id_cmp id) others) (sym (id_ties id other)) ∙ ap (λ b. same_id id other || b) (go others)
