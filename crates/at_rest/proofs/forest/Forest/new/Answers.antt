-- The packets and the log are the group's.
use Rattle.std.proofs.Common.{◌∙◌}
use Rattle.std.specs.Prelude.{reverse}
use Rattle.at_rest.specs.Tree.{tree_of}
use Rattle.at_rest.proofs.forest.Forest.new.Goals as goal

pub returns : goal.returns
returns g c id = c.in_ok-lists.ensures id ∙ (λ i. tree_of (c.sent.ensures i) id (reverse (c.log.ensures i)))
