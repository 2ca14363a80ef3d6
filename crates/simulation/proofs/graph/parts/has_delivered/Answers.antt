-- The runs are those of the deliveries.
use Rattle.std.proofs.Common.{◌∙◌}
use Rattle.simulation.proofs.graph.parts.has_delivered.Goals as goal

pub returns : goal.returns
returns g c = c.contains.ensures ∙ c.requires c.args.node.now
