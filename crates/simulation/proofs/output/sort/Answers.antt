-- The ranks have the order of the lines.
use Rattle.std.proofs.Common.{Bor, Contains, rules, sym}
use Rattle.std.proofs.lemmas.List.Elements.{All-same}
use Rattle.std.proofs.lemmas.Fn.{always_returns_same}
use Rattle.std.proofs.lemmas.List.Sorted.{All-permutation, IsPermutation-map, IsPermutation-trans}
use Rattle.std.specs.List.Sorted.{IsPermutation}
use Rattle.std.specs.Ordering.{is_lt}
use Rattle.node_names.specs.Same.{same_id, same_origin}
use Rattle.protocol.specs.Delivery.{Delivery}
use Rattle.simulation.specs.Lines.{line_cmp}
use Rattle.simulation.specs.Ranks.{rank_in}
use Rattle.simulation.proofs.Borrowed.{mapped-sorted}
use Rattle.simulation.proofs.Sorting.{sorted_by_ranks}
use Rattle.simulation.proofs.Oks.{on_ok, on_ok_weaker}
use Rattle.simulation.proofs.output.sort.Goals as goal

pub returns-clause-permutation : goal.returns-clause-permutation
returns-clause-permutation g c =
    on_ok c.sort_by_cached_key-2.result _ (IsPermutation-map (λ (d : Bor Delivery). d.now) _ _
    (IsPermutation-trans _ _ _ c.sort_by_cached_key.ensures.permutation c.sort_by_cached_key-2.ensures.permutation))

pub returns-clause-sorted : goal.returns-clause-sorted
returns-clause-sorted g c =
    let old = c.args.deliveries.now.items in
    let mid = c.sort_by_cached_key.new.self.items in
    let new = c.sort_by_cached_key-2.new.self.items in
    let moved : IsPermutation old new = IsPermutation-trans _ _ _ c.sort_by_cached_key.ensures.permutation c.sort_by_cached_key-2.ensures.permutation in
    let nodes = c.in_ok-nodes.nodes.keys in
    let ids = c.in_ok-ids.ids.keys in
    let of_node = λ (d : Bor Delivery). rank_in same_origin nodes d.now.node in
    let of_id = λ (d : Bor Delivery). rank_in same_id ids d.now.id in
    on_ok_weaker c.sort_by_cached_key-2.result _ _ (λ sorted.
    mapped-sorted (λ (d : Bor Delivery). d.now) (λ a b. is_lt (line_cmp a b)) new
    (sorted_by_ranks nodes ids c.in_ok-nodes.ensures.sorted c.in_ok-ids.ensures.sorted mid new
    (All-permutation (λ (d : Bor Delivery). Contains nodes d.now.node) old new moved
    (All-same (λ (d : Bor Delivery). Contains nodes d.now.node) _ _ (sym c.as_slice.ensures.value) c.in_ok-nodes.ensures.all))
    (All-permutation (λ (d : Bor Delivery). Contains ids d.now.id) old new moved
    (All-same (λ (d : Bor Delivery). Contains ids d.now.id) _ _ (sym c.as_slice-2.ensures.value) c.in_ok-ids.ensures.all))
    (c.in_ok-sort_by_cached_key.ensures.sorted of_id (always_returns_same _ _ _ (λ a r f' called. search rules)))
    (sorted of_node (always_returns_same _ _ _ (λ a r f' called. search rules)))
    (c.sort_by_cached_key-2.ensures.stable of_node (always_returns_same _ _ _ (λ a r f' called. search rules))))) c.sort_by_cached_key-2.ensures.sorted
