-- The node and the core of a name.
use Rattle.std.proofs.Common.{◌≡◌, ◌∙◌, List, [], ◌∷◌, true, false, sym, ap, refl, inl, inr}
use Rattle.std.specs.Prelude.{Bool, Option, Some, None, cond}
use Rattle.node_names.specs.NodeName.{Name}
use Rattle.node_names.specs.Same.{same_name, same_name-Decides}
use Rattle.protocol.specs.Lists.{IsOneOf}
use Rattle.world.specs.Group.{Group, core_in, core_of, node_of}
use Rattle.world.specs.Links.{Runs}
use Rattle.world.specs.declared.node_state.NodeState.{NodeState}

-- a node that is found is one of the list, under its name
pub found_one : {C : Type 0} (name : Name) (nodes : List (NodeState C)) (node : NodeState C) →
    node_of name nodes ≡ Some node →
    IsOneOf node nodes × (name ≡ node.name)
found_one name [] node e = let none : None ≡ Some node = e in cc
found_one {C} name (other ∷ others) node e = go (same_name name other.name) refl e (λ later. found_one name others node later)
  where
    go : (b : Bool) →
        same_name name other.name ≡ b →
        cond b (Some other) (node_of name others) ≡ Some node →
        (node_of name others ≡ Some node → IsOneOf node others × (name ≡ node.name)) →
        IsOneOf node (other ∷ others) × (name ≡ node.name)
    go true same found later =
        let is : Some other ≡ Some node = found in
        let this : other ≡ node = cc in
        (inl (sym this), (same_name-Decides name other.name).0 same ∙ ap (λ (n : NodeState C). n.name) this)
    go false same found later = let rest = later found in (inr rest.0, rest.1)

-- the core that runs under a name is the one that is found
pub core_runs : {C N : Type 0} (group : Group C N) (name : Name) (core : C) → core_of name group.nodes ≡ Some core → Runs group name core
core_runs {C} group name core e = go (node_of name group.nodes) refl e
  where
    go : (o : Option (NodeState C)) → node_of name group.nodes ≡ o → core_in o ≡ Some core → Runs group name core
    go None at is = let none : None ≡ Some core = is in cc
    go (Some node) at is = (node, at, is)

-- and the other way round
pub runs_core : {C N : Type 0} (group : Group C N) (name : Name) (core : C) → Runs group name core → core_of name group.nodes ≡ Some core
runs_core group name core runs = ap core_in runs.1 ∙ runs.2
