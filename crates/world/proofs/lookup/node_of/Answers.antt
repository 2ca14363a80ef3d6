-- The node of a name stands where the name does.
use Rattle.std.proofs.Common.{◌∙◌, sym}
use Rattle.world.proofs.Places.{node_nowhere, node_there}
use Rattle.world.proofs.lookup.node_of.Goals as goal

pub returns-in-Some : goal.returns-in-Some
returns-in-Some g c =
    sym (node_there c.args.name.now c.args.names.now.keys c.args.nodes.now c.in-Some.at c.index-nodes-at.result c.requires
    (sym c.place_of.ensures ∙ c.in-Some.is) c.index-nodes-at.is).1

pub returns-in-None : goal.returns-in-None
returns-in-None g c = sym (node_nowhere c.args.name.now c.args.names.now.keys c.args.nodes.now c.requires (sym c.place_of.ensures ∙ c.in-None.is))
