-- Putting a node by its place is putting it by its name.
use Rattle.std.proofs.Common.{◌≡◌, ◌+◌, ◌<◌, ◌≤◌, ℕ, List, [], ◌∷◌, ◌++◌, length, true, false, sym, ◌∙◌, ap, refl, arith, subst, zero, suc, add-zero}
use Rattle.std.specs.Prelude.{Bool, Some, None, not, cond, slice_set, nat_lt, if◌then◌else◌}
use Rattle.std.specs.List.{position, position_or_len}
use Rattle.std.proofs.lemmas.Bool.Decides.{Decides-ltb, nat_tests}
use Rattle.node_names.specs.Same.{same_name}
use Rattle.protocol.specs.Lists.{places}
use Rattle.world.specs.Group.{put_node}
use Rattle.world.specs.declared.node_state.NodeState.{NodeState}

-- one more place
pub places-push : (first n : ℕ) → places first (suc n) ≡ places first n ++ (first + n) ∷ []
places-push first zero = ap (λ m. m ∷ []) (sym (add-zero first))
places-push first (suc n) = ap (λ ms. first ∷ ms) (places-push (suc first) n ∙ ap (λ m. places (suc first) n ++ m ∷ []) (omega arith))

-- a position that is found is the first place where the test passes
pub position_is : {X : Type 0} (p : X → Bool) (xs : List X) (at : ℕ) →
    position p xs ≡ Some at →
    (position_or_len p xs ≡ at) × (position_or_len p xs < length xs)
position_is {X} p xs at e = go (nat_lt (position_or_len p xs) (length xs)) refl e
  where
    go : (b : Bool) →
        nat_lt (position_or_len p xs) (length xs) ≡ b →
        cond b (Some (position_or_len p xs)) None ≡ Some at →
        (position_or_len p xs ≡ at) × (position_or_len p xs < length xs)
    go true is f = let same : Some (position_or_len p xs) ≡ Some at = f in (cc, (Decides-ltb (position_or_len p xs) (length xs)).0 is)
    go false is f = let none : None ≡ Some at = f in cc

-- where none is found, the first place would be past the end
pub no_position : {X : Type 0} (p : X → Bool) (xs : List X) → position p xs ≡ None → length xs ≤ position_or_len p xs
no_position {X} p xs e = go (nat_lt (position_or_len p xs) (length xs)) refl e
  where
    go : (b : Bool) → nat_lt (position_or_len p xs) (length xs) ≡ b → cond b (Some (position_or_len p xs)) None ≡ None → length xs ≤ position_or_len p xs
    go true is f = let none : Some (position_or_len p xs) ≡ None = f in cc
    go false is f = grind (arith, nat_tests, is)

-- a node that is found by its name is put in its place
pub put_node-found : {C : Type 0} (node : NodeState C) (nodes : List (NodeState C)) →
    position_or_len (λ other. same_name node.name other.name) nodes < length nodes →
    slice_set nodes (position_or_len (λ other. same_name node.name other.name) nodes) node ≡ put_node node nodes
put_node-found node [] h = absurd (omega arith)
put_node-found {C} node (other ∷ others) h =
    go (same_name node.name other.name) (position_or_len (λ (n : NodeState C). same_name node.name n.name) others) (put_node-found node others) h
  where
    go : (b : Bool) (k : ℕ) →
        (k < length others → slice_set others k node ≡ put_node node others) →
        cond (not b) (1 + k) 0 < length (other ∷ others) →
        slice_set (other ∷ others) (cond (not b) (1 + k) 0) node ≡ (if b then node ∷ others else other ∷ put_node node others)
    go true k later h = refl
    go false k later h =
        let one : 1 + k ≡ suc k = omega arith in
        rw one (ap (λ ns. other ∷ ns) (later (omega arith)))

-- one that is not found is put last
pub put_node-absent : {C : Type 0} (node : NodeState C) (nodes : List (NodeState C)) →
    length nodes ≤ position_or_len (λ other. same_name node.name other.name) nodes →
    nodes ++ node ∷ [] ≡ put_node node nodes
put_node-absent node [] h = refl
put_node-absent {C} node (other ∷ others) h =
    go (same_name node.name other.name) (position_or_len (λ (n : NodeState C). same_name node.name n.name) others) (put_node-absent node others) h
  where
    go : (b : Bool) (k : ℕ) →
        (length others ≤ k → others ++ node ∷ [] ≡ put_node node others) →
        length (other ∷ others) ≤ cond (not b) (1 + k) 0 →
        other ∷ (others ++ node ∷ []) ≡ (if b then node ∷ others else other ∷ put_node node others)
    go true k later h = absurd (omega arith)
    go false k later h = ap (λ ns. other ∷ ns) (later (omega arith))

-- both, by what a search for the place answers
pub put_node-at : {C : Type 0} (node : NodeState C) (nodes : List (NodeState C)) (at : ℕ) →
    position (λ other. same_name node.name other.name) nodes ≡ Some at →
    slice_set nodes at node ≡ put_node node nodes
put_node-at {C} node nodes at e =
    let found : (position_or_len (λ (n : NodeState C). same_name node.name n.name) nodes ≡ at)
    × (position_or_len (λ (n : NodeState C). same_name node.name n.name) nodes < length nodes) =
    position_is (λ (n : NodeState C). same_name node.name n.name) nodes at e in
    subst (λ k. slice_set nodes k node ≡ put_node node nodes) found.0 (put_node-found node nodes found.1)

pub put_node-last : {C : Type 0} (node : NodeState C) (nodes : List (NodeState C)) →
    position (λ other. same_name node.name other.name) nodes ≡ None →
    nodes ++ node ∷ [] ≡ put_node node nodes
put_node-last {C} node nodes e = put_node-absent node nodes (no_position (λ (n : NodeState C). same_name node.name n.name) nodes e)
