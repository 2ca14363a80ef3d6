-- Two sets are the same if each is a subset of the other.
use Rattle.std.proofs.Common.{◌≡◌, true, false, sym, ◌∙◌}
use Rattle.node_core.proofs.SameSets.{same_from_subsets}
use Rattle.node_core.proofs.names.are_same.Goals as goal

pub returns-then-is_subset : goal.returns-then-is_subset
returns-then-is_subset g c = (
  λ yes. same_from_subsets c.args.names.now.keys c.args.others.now.keys (c.is_subset.ensures.0 c.if-is_subset.true) (c.is_subset-then-is_subset.ensures.0 yes),
  λ same. c.is_subset-then-is_subset.ensures.1 (λ q there. same q ∙ there),
)

pub returns-else-is_subset : goal.returns-else-is_subset
returns-else-is_subset g c = (
  λ yes. let no : false ≡ true = sym c.if-is_subset.false ∙ yes in cc,
  λ same. c.is_subset.ensures.1 (λ q there. sym (same q) ∙ there),
)
