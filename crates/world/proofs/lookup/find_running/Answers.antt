-- The node of a name stands where the name does.
use Rattle.std.proofs.Common.{◌∙◌, sym, ap, refl}
use Rattle.world.specs.Refusals.{absent}
use Rattle.world.proofs.Places.{node_nowhere, node_there, runs_there}
use Rattle.world.proofs.lookup.find_running.Goals as goal

pub returns-in_default-clause-absent : goal.returns-in_default-clause-absent
returns-in_default-clause-absent g c =
    ap absent (node_nowhere c.args.name.now c.args.names.now.keys c.args.nodes.now c.requires (sym c.place_of.ensures ∙ c.in_default.is))

pub returns-in-Some-core-clause-found : goal.returns-in-Some-core-clause-found
returns-in-Some-core-clause-found g c =
    runs_there c.args.name.now c.args.names.now.keys c.args.nodes.now c.in-Some.at c.index-nodes-at.result c.in-Some-core.core c.requires
    (sym c.place_of.ensures ∙ c.in-Some.is) c.index-nodes-at.is c.in-Some-core.is

pub returns-in-None-clause-absent : goal.returns-in-None-clause-absent
returns-in-None-clause-absent g c =
    rw (node_there c.args.name.now c.args.names.now.keys c.args.nodes.now c.in-Some.at c.index-nodes-at.result c.requires
    (sym c.place_of.ensures ∙ c.in-Some.is) c.index-nodes-at.is).1
    (rw c.in-None.is refl)
