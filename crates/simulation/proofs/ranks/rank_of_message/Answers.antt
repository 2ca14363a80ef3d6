-- The place, if there is one.
use Rattle.std.proofs.Common.{◌∙◌, ℕ, Option, ap}
use Rattle.std.specs.Option.{unwrap_or}
use Rattle.simulation.proofs.ranks.rank_of_message.Goals as goal

pub returns : goal.returns
returns g c = c.unwrap_or.ensures ∙ ap (λ (found : Option ℕ). unwrap_or found 0) c.get_index_of.ensures.index
