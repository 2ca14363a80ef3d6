-- The place of the node of this name is the first where the names are the same.
use Rattle.std.proofs.Common.{ap, refl, sym, ◌∙◌}
use Rattle.std.specs.List.{position}
use Rattle.node_names.specs.Same.{same_name}
use Rattle.world.proofs.NodeLemmas.{put_node-at, put_node-last}
use Rattle.world.proofs.Places.{name_nowhere, position-names, same_names}
use Rattle.world.proofs.commit.put_node.Goals as goal

pub returns-in-Some-clause-nodes : goal.returns-in-Some-clause-nodes
returns-in-Some-clause-nodes g c =
    put_node-at c.args.node c.args.nodes.now.items c.in-Some.at (sym (position-names c.args.node.name c.args.nodes.now.items)
    ∙ ap (position (same_name c.args.node.name)) (sym c.requires.named)
    ∙ sym c.place_of.ensures
    ∙ c.in-Some.is)

pub returns-in-Some-clause-named : goal.returns-in-Some-clause-named
returns-in-Some-clause-named g c =
    c.requires.named
    ∙ sym (same_names c.args.node.name c.args.names.now.keys c.args.nodes.now.items c.in-Some.at c.args.node c.requires.named
    (sym c.place_of.ensures ∙ c.in-Some.is) refl)

pub put_name-requires-clause-absent : goal.put_name-requires-clause-absent
put_name-requires-clause-absent g c = name_nowhere c.args.node.name c.args.names.now.keys (sym c.place_of.ensures ∙ c.in-None.is)

pub returns-in-None-clause-nodes : goal.returns-in-None-clause-nodes
returns-in-None-clause-nodes g c =
    c.put_last.ensures.items
    ∙ put_node-last c.args.node c.args.nodes.now.items (sym (position-names c.args.node.name c.args.nodes.now.items)
    ∙ ap (position (same_name c.args.node.name)) (sym c.requires.named)
    ∙ sym c.place_of.ensures
    ∙ c.in-None.is)
