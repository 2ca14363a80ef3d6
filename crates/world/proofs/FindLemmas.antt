-- The node of a name, after a node was put.
use Rattle.std.proofs.Common.{◌≡◌, ◌∙◌, List, [], ◌∷◌, true, false, sym, ap, refl, subst, inl, inr}
use Rattle.std.specs.List.{AllByRecursion as Each}
use Rattle.std.specs.Prelude.{◌⊎◌, Bool, Some, None, cond, if◌then◌else◌}
use Rattle.std.proofs.lemmas.Bool.{false≢true}
use Rattle.node_names.specs.NodeName.{Name}
use Rattle.node_names.specs.Same.{same_name, same_name-Decides}
use Rattle.world.specs.Group.{node_of, put_node}
use Rattle.world.specs.declared.node_state.NodeState.{NodeState}

-- a name is the same as itself
pub name_is : (name : Name) → same_name name name ≡ true
name_is name = (same_name-Decides name name).1 refl

-- names that the test tells apart differ
pub names_differ : (name other : Name) → same_name name other ≡ false → name ≡ other → ⊥
names_differ name other apart is = let same : same_name name other ≡ true = (same_name-Decides name other).1 is in false≢true (sym apart ∙ same)

-- the test tells names apart that differ
pub tells_apart : (name other : Name) → (name ≡ other → ⊥) → same_name name other ≡ false
tells_apart name other differ = go (same_name name other) refl
  where
    go : (b : Bool) → same_name name other ≡ b → b ≡ false
    go false is = refl
    go true is = absurd (differ ((same_name-Decides name other).0 is))

-- the node that is put is found under its name
pub put_same : {C : Type 0} (name : Name) (node : NodeState C) (nodes : List (NodeState C)) →
    same_name name node.name ≡ true →
    node_of name (put_node node nodes) ≡ Some node
put_same name node [] is = ap (λ b. cond b (Some node) None) is
put_same {C} name node (other ∷ others) is = go (same_name node.name other.name) refl (put_same name node others is)
  where
    go : (b : Bool) →
        same_name node.name other.name ≡ b →
        node_of name (put_node node others) ≡ Some node →
        node_of name (if b then node ∷ others else other ∷ put_node node others) ≡ Some node
    go true at later = ap (λ b. cond b (Some node) (node_of name others)) is
    go false at later =
        let apart : same_name name other.name ≡ false =
        tells_apart name other.name (λ e. names_differ node.name other.name at (sym ((same_name-Decides name node.name).0 is) ∙ e)) in
        ap (λ b. cond b (Some other) (node_of name (put_node node others))) apart ∙ later

-- and under every other name what was found before
pub put_other : {C : Type 0} (name : Name) (node : NodeState C) (nodes : List (NodeState C)) →
    same_name name node.name ≡ false →
    node_of name (put_node node nodes) ≡ node_of name nodes
put_other name node [] is = ap (λ b. cond b (Some node) None) is
put_other {C} name node (other ∷ others) is = go (same_name node.name other.name) refl (put_other name node others is)
  where
    go : (b : Bool) →
        same_name node.name other.name ≡ b →
        node_of name (put_node node others) ≡ node_of name others →
        node_of name (if b then node ∷ others else other ∷ put_node node others) ≡ node_of name (other ∷ others)
    go true at later =
        let apart : same_name name other.name ≡ false =
        tells_apart name other.name (λ e. names_differ name node.name is (e ∙ sym ((same_name-Decides node.name other.name).0 at))) in
        ap (λ b. cond b (Some node) (node_of name others)) is ∙ sym (ap (λ b. cond b (Some other) (node_of name others)) apart)
    go false at later = ap (λ o. cond (same_name name other.name) (Some other) o) later

-- what is found is the node that was put, or was found before under another name
pub put_cases : {C : Type 0} (name : Name) (node found : NodeState C) (nodes : List (NodeState C)) →
    node_of name (put_node node nodes) ≡ Some found →
    ((name ≡ node.name) × (node ≡ found)) ⊎ ((name ≡ node.name → ⊥) × (node_of name nodes ≡ Some found))
put_cases {C} name node found nodes e = go (same_name name node.name) refl
  where
    go : (b : Bool) → same_name name node.name ≡ b → ((name ≡ node.name) × (node ≡ found)) ⊎ ((name ≡ node.name → ⊥) × (node_of name nodes ≡ Some found))
    go true is = let same : Some node ≡ Some found = sym (put_same name node nodes is) ∙ e in inl ((same_name-Decides name node.name).0 is, cc)
    go false is = inr (names_differ name node.name is, sym (put_other name node nodes is) ∙ e)

-- a node that is found has the name
pub found_name : {C : Type 0} (name : Name) (nodes : List (NodeState C)) (found : NodeState C) → node_of name nodes ≡ Some found → name ≡ found.name
found_name name [] found e = let no : None ≡ Some found = e in cc
found_name {C} name (other ∷ others) found e = go (same_name name other.name) refl e (found_name name others found)
  where
    go : (b : Bool) →
        same_name name other.name ≡ b →
        cond b (Some other) (node_of name others) ≡ Some found →
        (node_of name others ≡ Some found → name ≡ found.name) →
        name ≡ found.name
    go true is f later =
        let same : Some other ≡ Some found = f in
        let this : other ≡ found = cc in (same_name-Decides name other.name).0 is ∙ ap (λ (n : NodeState C). n.name) this
    go false is f later = later f

-- what holds of each node and of the one that is put holds of each then
pub each-put_node :
    {C : Type 0} (P : NodeState C → Type 0) (node : NodeState C) (nodes : List (NodeState C)) → Each P nodes → P node → Each P (put_node node nodes)
each-put_node P node [] h p = (p, tt)
each-put_node {C} P node (other ∷ others) h p = go (same_name node.name other.name) (each-put_node P node others h.1 p)
  where
    go : (b : Bool) → Each P (put_node node others) → Each P (if b then node ∷ others else other ∷ put_node node others)
    go true later = (p, h.1)
    go false later = (h.0, later)

-- what holds of each node holds of one that is found
pub each-found : {C : Type 0} (P : NodeState C → Type 0) (name : Name) (nodes : List (NodeState C)) (found : NodeState C) →
    Each P nodes →
    node_of name nodes ≡ Some found →
    P found
each-found P name [] found h e = let no : None ≡ Some found = e in cc
each-found {C} P name (other ∷ others) found h e = go (same_name name other.name) e (each-found P name others found h.1)
  where
    go : (b : Bool) → cond b (Some other) (node_of name others) ≡ Some found → (node_of name others ≡ Some found → P found) → P found
    go true f later = let same : Some other ≡ Some found = f in let this : other ≡ found = cc in subst P this h.0
    go false f later = later f
