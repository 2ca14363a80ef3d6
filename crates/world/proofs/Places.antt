-- The place of a name among the names of all nodes is the place of its node.
use Rattle.std.proofs.Common.{◌≡◌, ◌∙◌, ◌+◌, ◌<◌, ◌≤◌, ℕ, List, [], ◌∷◌, length, true, false, sym, ap, refl, subst, arith, zero, suc, get_or}
use Rattle.std.proofs.Math.Seq.{map-set_same}
use Rattle.std.proofs.lemmas.List.{length-map}
use Rattle.std.proofs.lemmas.Option.{slice_get-get_or}
use Rattle.std.specs.List.{position, position_or_len}
use Rattle.std.specs.Prelude.{◌||◌, Bool, Some, None, cond, nat_lt, not, slice_get, slice_set}
use Rattle.node_names.specs.NodeName.{Name}
use Rattle.node_names.specs.Same.{has_name, same_name}
use Rattle.world.specs.Group.{node_of}
use Rattle.world.specs.Plan.{RunsAt, names_of}
use Rattle.world.specs.declared.node_state.NodeState.{NodeState}
use Rattle.world.proofs.FindLemmas.{found_name}
use Rattle.world.proofs.NodeLemmas.{no_position, position_is}

-- a name that has no place is not among the names
absent : (name : Name) (keys : List Name) → length keys ≤ position_or_len (same_name name) keys → has_name keys name ≡ false
absent name [] h = refl
absent name (key ∷ keys) h = go (same_name name key) (position_or_len (same_name name) keys) h (absent name keys)
  where
    go : (b : Bool) (n : ℕ) → length (key ∷ keys) ≤ cond (not b) (1 + n) 0 → (length keys ≤ n → has_name keys name ≡ false) → (b || has_name keys name) ≡ false
    go true n h later = absurd (omega arith)
    go false n h later = later (omega arith)

pub name_nowhere : (name : Name) (keys : List Name) → position (same_name name) keys ≡ None → has_name keys name ≡ false
name_nowhere name keys placed = absent name keys (no_position (same_name name) keys placed)

module _ {C : Type 0} (name : Name) where
  -- the first node of the name stands where the name does
  first_of_names : (nodes : List (NodeState C)) →
      position_or_len (same_name name) (names_of nodes) ≡ position_or_len (λ (node : NodeState C). same_name name node.name) nodes
  first_of_names [] = refl
  first_of_names (node ∷ nodes) = ap (λ k. cond (not (same_name name node.name)) (1 + k) 0) (first_of_names nodes)

  -- so a search for the name answers what one for the node does
  pub position-names : (nodes : List (NodeState C)) →
      position (same_name name) (names_of nodes) ≡ position (λ (node : NodeState C). same_name name node.name) nodes
  position-names nodes =
      (λ i. cond (nat_lt (first_of_names nodes i) (length-map nodes (λ (node : NodeState C). node.name) i)) (Some (first_of_names nodes i)) None)

  -- the node that is found stands there
  found_there : (nodes : List (NodeState C)) →
      position_or_len (λ (node : NodeState C). same_name name node.name) nodes < length nodes →
      node_of name nodes ≡ slice_get nodes (position_or_len (λ (node : NodeState C). same_name name node.name) nodes)
  found_there [] h = refl
  found_there (node ∷ nodes) h = go (same_name name node.name) (position_or_len (λ (n : NodeState C). same_name name n.name) nodes) (found_there nodes) h
    where
      go : (b : Bool) (k : ℕ) →
          (k < length nodes → node_of name nodes ≡ slice_get nodes k) →
          cond (not b) (1 + k) 0 < length (node ∷ nodes) →
          cond b (Some node) (node_of name nodes) ≡ slice_get (node ∷ nodes) (cond (not b) (1 + k) 0)
      go true k later h = refl
      go false k later h =
          let one : 1 + k ≡ suc k = omega arith in
          rw one (later (omega arith))

  -- and none is found past the end
  found_nowhere : (nodes : List (NodeState C)) →
      length nodes ≤ position_or_len (λ (node : NodeState C). same_name name node.name) nodes →
      node_of name nodes ≡ None
  found_nowhere [] h = refl
  found_nowhere (node ∷ nodes) h = go (same_name name node.name) (position_or_len (λ (n : NodeState C). same_name name n.name) nodes) (found_nowhere nodes) h
    where
      go : (b : Bool) (k : ℕ) →
          (length nodes ≤ k → node_of name nodes ≡ None) →
          length (node ∷ nodes) ≤ cond (not b) (1 + k) 0 →
          cond b (Some node) (node_of name nodes) ≡ None
      go true k later h = absurd (omega arith)
      go false k later h = later (omega arith)

  -- where the name has a place, its node stands there
  pub node_there : (keys : List Name) (nodes : List (NodeState C)) (at : ℕ) (node : NodeState C) →
      keys ≡ names_of nodes →
      position (same_name name) keys ≡ Some at →
      node ≡ get_or nodes at node →
      (slice_get nodes at ≡ Some node) × (node_of name nodes ≡ Some node)
  node_there keys nodes at node named placed is =
      let here : (position_or_len (λ (n : NodeState C). same_name name n.name) nodes ≡ at)
      × (position_or_len (λ (n : NodeState C). same_name name n.name) nodes < length nodes) =
      position_is (λ (n : NodeState C). same_name name n.name) nodes at (sym (position-names nodes) ∙ ap (position (same_name name)) (sym named) ∙ placed) in
      let there : slice_get nodes at ≡ Some node = slice_get-get_or nodes at node (subst (λ k. k < length nodes) here.0 here.1) ∙ ap Some (sym is) in
      (there, found_there nodes here.1 ∙ ap (slice_get nodes) here.0 ∙ there)

  -- and where it has none, there is no node of the name
  pub node_nowhere : (keys : List Name) (nodes : List (NodeState C)) → keys ≡ names_of nodes → position (same_name name) keys ≡ None → node_of name nodes ≡ None
  node_nowhere keys nodes named placed =
      found_nowhere nodes
      (no_position (λ (n : NodeState C). same_name name n.name) nodes (sym (position-names nodes) ∙ ap (position (same_name name)) (sym named) ∙ placed))

  -- what is put there has the name that stood there
  pub same_names : (keys : List Name) (nodes : List (NodeState C)) (at : ℕ) (node : NodeState C) →
      keys ≡ names_of nodes →
      position (same_name name) keys ≡ Some at →
      name ≡ node.name →
      names_of (slice_set nodes at node) ≡ names_of nodes
  same_names keys nodes at node named placed is =
      let there : (slice_get nodes at ≡ Some (get_or nodes at node)) × (node_of name nodes ≡ Some (get_or nodes at node)) =
      node_there keys nodes at (get_or nodes at node) named placed (get_or_again nodes at node) in
      map-set_same (λ (n : NodeState C). n.name) nodes at node node (sym is ∙ found_name name nodes (get_or nodes at node) there.1)
    where
      get_or_again : (xs : List (NodeState C)) (k : ℕ) (d : NodeState C) → get_or xs k d ≡ get_or xs k (get_or xs k d)
      get_or_again [] k d = refl
      get_or_again (x ∷ xs) zero d = refl
      get_or_again (x ∷ xs) (suc k) d = get_or_again xs k d

  -- a node that stands there and has a core runs there
  pub runs_there : (keys : List Name) (nodes : List (NodeState C)) (at : ℕ) (node : NodeState C) (core : C) →
      keys ≡ names_of nodes →
      position (same_name name) keys ≡ Some at →
      node ≡ get_or nodes at node →
      node.core ≡ Some core →
      RunsAt name nodes at node core
  runs_there keys nodes at node core named placed is running =
      let found : (slice_get nodes at ≡ Some node) × (node_of name nodes ≡ Some node) = node_there keys nodes at node named placed is in
      record {
        known = found.1;
        there = found.0;
        first =
            subst (λ n. position (λ (other : NodeState C). same_name n other.name) nodes ≡ Some at)
            (found_name name nodes node found.1) (sym (position-names nodes) ∙ ap (position (same_name name)) (sym named) ∙ placed);
        running = running;
      }
