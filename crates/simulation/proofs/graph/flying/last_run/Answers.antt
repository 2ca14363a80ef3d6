-- The node of a name stands where the name does.
use Rattle.std.proofs.Common.{◌≡◌, ◌∙◌, ◌<◌, ℕ, List, ap, arith, length, subst, sym}
use Rattle.std.specs.List.{position}
use Rattle.std.specs.Prelude.{Some, option_map}
use Rattle.std.proofs.lemmas.List.{length-map}
use Rattle.node_names.specs.NodeName.{Name}
use Rattle.node_names.specs.Same.{same_name}
use Rattle.world.specs.Group.{origin_of}
use Rattle.world.specs.Plan.{names_of}
use Rattle.world.specs.declared.node_state.NodeState.{NodeState}
use Rattle.world.proofs.NodeLemmas.{position_is}
use Rattle.world.proofs.Places.{node_nowhere, node_there}
use Rattle.node_core.specs.Plum.{Plum}
use Rattle.simulation.proofs.graph.flying.last_run.Goals as goal

-- a place of a name is one of a node
within : (name : Name) (keys : List Name) (nodes : List (NodeState Plum)) (at : ℕ) →
    keys ≡ names_of nodes →
    position (same_name name) keys ≡ Some at →
    at < length nodes
within name keys nodes at named placed =
    let there = position_is (same_name name) keys at placed in
    subst (λ n. at < n) (ap length named ∙ length-map nodes (λ (node : NodeState Plum). node.name)) (subst (λ k. k < length keys) there.0 there.1)

pub offset_bounds-nodes-at : goal.offset_bounds-nodes-at
offset_bounds-nodes-at g c =
    let low : c.in-Some.at < length c.args.nodes.now =
    within c.args.name.now c.args.names.now.keys c.args.nodes.now c.in-Some.at c.requires (sym c.place_of.ensures ∙ c.in-Some.is) in
    omega (arith, low)

pub bounds-nodes-at : goal.bounds-nodes-at
bounds-nodes-at g c = within c.args.name.now c.args.names.now.keys c.args.nodes.now c.in-Some.at c.requires (sym c.place_of.ensures ∙ c.in-Some.is)

pub returns-in-Some : goal.returns-in-Some
returns-in-Some g c =
    sym (ap (option_map origin_of) (node_there c.args.name.now c.args.names.now.keys c.args.nodes.now c.in-Some.at c.index-nodes-at.result c.requires
    (sym c.place_of.ensures ∙ c.in-Some.is) c.index-nodes-at.is).1)

pub returns-in-None : goal.returns-in-None
returns-in-None g c =
    sym (ap (option_map origin_of) (node_nowhere c.args.name.now c.args.names.now.keys c.args.nodes.now c.requires (sym c.place_of.ensures ∙ c.in-None.is)))
