-- What is sorted by the rank of its message, and then by the rank of its node without moving what ties, has the order
-- of lines.
use Rattle.std.proofs.Common.{◌≡◌, ◌∙◌, ◌+◌, ◌<◌, ℕ, Bool, true, false, not, ◌&&◌, List, get_or, length, ap, sym, refl, arith, All, Bor, Contains}
use Rattle.std.specs.List.Sorted.{IsSortedBy, IsSortedByKey, IsStableByKey}
use Rattle.std.specs.Ordering.{is_lt, nat_cmp, ordering_then}
use Rattle.std.specs.Cmp.{nat_cmp_total}
use Rattle.std.specs.declared.cmp.Ordering.{Ordering}
use Rattle.std.specs.declared.cmp.Ordering.TheVariants.{Less, Equal, Greater}
use Rattle.std.proofs.lemmas.List.Elements.{All-get_or}
use Rattle.std.proofs.lemmas.List.Sorted.{ranks_by, ties_stay_sorted}
use Rattle.node_names.specs.Same.{same_id, same_id-Decides, same_id-laws, same_origin, same_origin-Decides, same_origin-laws}
use Rattle.node_names.specs.declared.ids.Origin.{Origin}
use Rattle.node_names.specs.declared.ids.MsgId.{MsgId}
use Rattle.protocol.specs.Delivery.{Delivery}
use Rattle.simulation.specs.Lines.{line_cmp, msg_id_cmp, origin_cmp}
use Rattle.simulation.specs.Ranks.{rank_in}
use Rattle.simulation.proofs.Orders.{msg_id_total, origin_antisymmetric, origin_total}
use Rattle.simulation.proofs.Ranking.{rank-lower}

module _ (nodes : List Origin) (ids : List MsgId) (nodes_sorted : IsSortedBy (λ a b. is_lt (origin_cmp a b)) nodes)
    (ids_sorted : IsSortedBy (λ a b. is_lt (msg_id_cmp a b)) ids) where
  -- the rank of the node, and of the message, of a delivery
  abbrev node_rank : Delivery → ℕ
  node_rank d = rank_in same_origin nodes d.node

  abbrev id_rank : Delivery → ℕ
  id_rank d = rank_in same_id ids d.id

  -- where ranks are in order, lines are
  ranked_lines : (a b : Delivery) →
      Contains nodes a.node →
      Contains nodes b.node →
      Contains ids a.id →
      Contains ids b.id →
      is_lt (nat_cmp (node_rank b) (node_rank a)) ≡ false →
      (a.node ≡ b.node → is_lt (nat_cmp (id_rank b) (id_rank a)) ≡ false) →
      is_lt (line_cmp b a) ≡ false
  ranked_lines a b node_a node_b id_a id_b by_node by_id = by (origin_cmp b.node a.node) refl
    where
      not_lower : is_lt (origin_cmp b.node a.node) ≡ false
      not_lower =
          rank-lower same_origin
          (λ x y. (same_origin-Decides x y).0) same_origin-laws.refl origin_cmp origin_total nodes b.node a.node nodes_sorted node_b node_a by_node

      by : (o : Ordering) → origin_cmp b.node a.node ≡ o → is_lt (line_cmp b a) ≡ false
      by Less e = absurd (cc (not_lower, ap is_lt e))
      by Equal e =
          let same : a.node ≡ b.node = sym (origin_antisymmetric b.node a.node e) in
          ap (λ (o : Ordering). is_lt (ordering_then o (msg_id_cmp b.id a.id))) e
          ∙ rank-lower same_id (λ x y. (same_id-Decides x y).0) same_id-laws.refl msg_id_cmp msg_id_total ids b.id a.id ids_sorted id_b id_a (by_id same)
      by Greater e = ap (λ (o : Ordering). is_lt (ordering_then o (msg_id_cmp b.id a.id))) e

  pub sorted_by_ranks : (mid new : List (Bor Delivery)) → All (λ d. Contains nodes d.now.node) new → All (λ d. Contains ids d.now.id) new
      → IsSortedByKey (λ (d : Bor Delivery). id_rank d.now) nat_cmp mid
      → IsSortedByKey (λ (d : Bor Delivery). node_rank d.now) nat_cmp new
      → IsStableByKey (λ (d : Bor Delivery). node_rank d.now) nat_cmp mid new
      → IsSortedBy (λ a b. is_lt (line_cmp a.now b.now)) new
  sorted_by_ranks mid new all_nodes all_ids by_id by_node stable k d low within =
      let a = get_or new k d in
      let b = get_or new (k + 1) d in
      let earlier : k < length new = omega (arith, within) in
      let IdBefore : Bor Delivery → Bor Delivery → Bool = λ x y. is_lt (nat_cmp (id_rank x.now) (id_rank y.now)) in
      let NodeBefore : Bor Delivery → Bor Delivery → Bool = λ x y. is_lt (nat_cmp (node_rank x.now) (node_rank y.now)) in
      ranked_lines a.now b.now
      (All-get_or (λ (x : Bor Delivery). Contains nodes x.now.node) new k d earlier all_nodes)
      (All-get_or (λ (x : Bor Delivery). Contains nodes x.now.node) new (k + 1) d within all_nodes)
      (All-get_or (λ (x : Bor Delivery). Contains ids x.now.id) new k d earlier all_ids)
      (All-get_or (λ (x : Bor Delivery). Contains ids x.now.id) new (k + 1) d within all_ids)
      (by_node k d low within)
      (λ same. ties_stay_sorted IdBefore NodeBefore (ranks_by nat_cmp_total (λ (x : Bor Delivery). id_rank x.now))
      (ranks_by nat_cmp_total (λ (x : Bor Delivery). node_rank x.now)) mid new by_id stable k d within
      (tie (node_rank a.now) (node_rank b.now) (ap (rank_in same_origin nodes) same)))
    where
      tie : (m n : ℕ) → m ≡ n → not (is_lt (nat_cmp m n)) && not (is_lt (nat_cmp n m)) ≡ true
      tie m n e = grind arith
