-- The sorted names are in order, each once, and they are those that were found.
use Rattle.std.proofs.Common.{◌∙◌, ap, sym}
use Rattle.std.specs.Cmp.Lexicographic.{nat_list_cmp_total, texts_ties}
use Rattle.std.proofs.lemmas.List.Filters.{dedup_is}
use Rattle.std.proofs.lemmas.List.Kept.{Contains-dedup, Contains-from_dedup, IsStrictlySortedBy-dedup}
use Rattle.std.proofs.lemmas.List.Sorted.{list_any-IsPermutation}
use Rattle.node_names.specs.Same.{has_name, has_name-Decides, same_name, same_name-Decides, same_name-laws}
use Rattle.at_rest.specs.Linking.{all_new_links}
use Rattle.at_rest.proofs.Lists.{same_truth}
use Rattle.at_rest.proofs.reaching.next_level.Goals as goal

pub returns-clause-sorted : goal.returns-clause-sorted
returns-clause-sorted g c =
    rw (dedup_is _ _ _ c.dedup.ensures.filtered) (IsStrictlySortedBy-dedup nat_list_cmp_total texts_ties _ c.sort_unstable.ensures.sorted)

pub returns-clause-same : goal.returns-clause-same
returns-clause-same g c =
    λ name.
    let sorted = c.sort_unstable.new.self.items in
    same_truth (has_name c.dedup.new.self.items name) (has_name sorted name)
    (λ h. (has_name-Decides sorted name).1
    (Contains-from_dedup same_name sorted name (rw (← dedup_is _ _ _ c.dedup.ensures.filtered) ((has_name-Decides c.dedup.new.self.items name).0 h))))
    (λ h. (has_name-Decides c.dedup.new.self.items name).1 (rw (dedup_is _ _ _ c.dedup.ensures.filtered)
    (Contains-dedup same_name-laws (λ x y. (same_name-Decides x y).0) sorted name ((has_name-Decides sorted name).0 h))))
    ∙ sym (list_any-IsPermutation (same_name name) _ sorted c.sort_unstable.ensures.permutation)
    ∙ ap (λ names. has_name names name)
    {y = all_new_links g.C.Core.state c.args.world.now.group.nodes c.args.reached.now.keys c.args.level.now} c.in_ok-next.ensures
