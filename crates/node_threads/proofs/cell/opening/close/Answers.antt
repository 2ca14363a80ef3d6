use Rattle.std.proofs.Common.{rules}
use Rattle.std.proofs.lemmas.Fn.{filter_same}
use Rattle.node_threads.proofs.cell.opening.close.Goals as goal

pub returns-clause-links : goal.returns-clause-links
returns-clause-links g c = filter_same _ _ _ (λ x b f' k. search rules) _ _ c.retain.ensures.filtered

pub returns-clause-names : goal.returns-clause-names
returns-clause-names g c = filter_same _ _ _ (λ x b f' k. search rules) _ _ c.retain-2.ensures.filtered
