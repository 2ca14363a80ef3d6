-- Words on lists: one of a list, each of it, and a node that is put.
use Rattle.std.proofs.Common.{◌≡◌, ◌∙◌, ◌+◌, ◌<◌, ◌++◌, ℕ, List, [], ◌∷◌, ap, arith, drop, false, get_or, inl, inr, length, refl, subst, sym, take, true}
use Rattle.std.specs.List.{AllByRecursion as Each}
use Rattle.std.specs.Prelude.{◌⊎◌, Bool, Some, None, cond, slice_get, if◌then◌else◌}
use Rattle.std.proofs.lemmas.List.{drop_more, length-append, take-append-drop, take_more}
use Rattle.std.proofs.lemmas.Option.{get_or_from_slice_get, slice_get_read, slice_get_within}
use Rattle.node_names.specs.NodeName.{Name}
use Rattle.node_names.specs.Same.{same_name, same_name-Decides}
use Rattle.node_names.specs.declared.ids.Origin.{Origin}
use Rattle.protocol.specs.Lists.{IsOneOf}
use Rattle.world.specs.Group.{node_of, packets, put_node}
use Rattle.world.specs.declared.node_state.NodeState.{NodeState}
use Rattle.world.specs.declared.packet.Packet.{Packet}

-- one of two lists that are joined is one of either
pub one_of-append : {X : Type 0} (x : X) (xs ys : List X) → IsOneOf x (xs ++ ys) → IsOneOf x xs ⊎ IsOneOf x ys
one_of-append x [] ys one = inr one
one_of-append {X} x (y ∷ xs) ys one =
    elim one [ inl here ↦ inl (inl here) | inr later ↦ (elim (one_of-append x xs ys later) [ inl before ↦ inl (inr before) | inr behind ↦ inr behind ]) ]

-- one of the first is one of both
pub one_of-left : {X : Type 0} (x : X) (xs ys : List X) → IsOneOf x xs → IsOneOf x (xs ++ ys)
one_of-left x [] ys one = absurd one
one_of-left x (y ∷ xs) ys one = elim one [ inl here ↦ inl here | inr later ↦ inr (one_of-left x xs ys later) ]

-- and so is one of the second
pub one_of-right : {X : Type 0} (x : X) (xs ys : List X) → IsOneOf x ys → IsOneOf x (xs ++ ys)
one_of-right x [] ys one = one
one_of-right x (y ∷ xs) ys one = inr (one_of-right x xs ys one)

-- what stands at a place of a list is one of it
pub one_of_place : {X : Type 0} (xs : List X) (i : ℕ) (x : X) → slice_get xs i ≡ Some x → IsOneOf x xs
one_of_place {X} xs i x at =
    let within : i < length xs = slice_get_within xs i x at in
    subst (λ (ys : List X). IsOneOf x ys) (take-append-drop i xs)
    (one_of-right x (take i xs) (drop i xs) (subst (IsOneOf x) (sym (drop_more xs i x within)) (inl (sym (get_or_from_slice_get xs i x x at)))))

-- what is put last stands behind the others
get_or-last : {X : Type 0} (xs : List X) (x d : X) → get_or (xs ++ x ∷ []) (length xs) d ≡ x
get_or-last [] x d = refl
get_or-last (y ∷ xs) x d = get_or-last xs x d

pub slice_get-last : {X : Type 0} (xs : List X) (x : X) → slice_get (xs ++ x ∷ []) (length xs) ≡ Some x
slice_get-last {X} xs x =
    let within : length xs < length (xs ++ x ∷ []) = simp length-append (omega arith) in
    slice_get_read (xs ++ x ∷ []) (length (xs ++ x ∷ [])) (length xs) x refl within (sym (get_or-last xs x x))

-- one of the first ones and of the next is one of the first ones or the next
pub one_of-take : {X : Type 0} (xs : List X) (i : ℕ) (x y : X) →
    i < length xs →
    x ≡ get_or xs i x →
    IsOneOf y (take (i + 1) xs) →
    IsOneOf y (take i xs) ⊎ (y ≡ x)
one_of-take {X} xs i x y within at one =
    let longer : take (i + 1) xs ≡ take i xs ++ x ∷ [] = take_more xs i x within ∙ ap (λ z. take i xs ++ z ∷ []) (sym at) in
    elim (one_of-append y (take i xs) (x ∷ []) (subst (IsOneOf y) longer one)) [
      | inl old ↦ inl old
      | inr new ↦ (elim new [ inl this ↦ inr this | inr none ↦ absurd none ])
    ]

-- a send is one of a list where its packet is one of the list's packets
pub one_of-packets : {N : Type 0} (sender : Origin) (sends : List (Name × N)) (send : Name × N) →
    IsOneOf send sends →
    IsOneOf (record { sender = sender; to = send.0; note = send.1 }) (packets sender sends)
one_of-packets sender [] send one = absurd one
one_of-packets {N} sender (first ∷ sends) send one =
    elim one [ inl here ↦ inl (λ i. record { sender = sender; to = (here i).0; note = (here i).1 }) | inr later ↦ inr (one_of-packets sender sends send later) ]

-- What a packet that was made of sends is.
pub record IsMadeOf {N : Type 0} (sender : Origin) (sends : List (Name × N)) (packet : Packet N) : Type 0 where
  pub its : sender ≡ packet.sender
  pub sends_it : IsOneOf (packet.to, packet.note) sends

-- and back
pub made_of-packets : {N : Type 0} (sender : Origin) (sends : List (Name × N)) (packet : Packet N) →
    IsOneOf packet (packets sender sends) →
    IsMadeOf sender sends packet
made_of-packets sender [] packet one = absurd one
made_of-packets {N} sender (first ∷ sends) packet one =
    elim one [
      | inl here ↦ record { its = sym (ap (λ (p : Packet N). p.sender) here); sends_it = inl (ap (λ (p : Packet N). (p.to, p.note)) here) }
      | inr later ↦ (let rest = made_of-packets sender sends packet later in record { its = rest.its; sends_it = inr rest.sends_it })
    ]

-- what holds of each of two lists holds of each of both
pub each-append : {X : Type 0} (P : X → Type 0) (xs ys : List X) → Each P xs → Each P ys → Each P (xs ++ ys)
each-append P [] ys h k = k
each-append P (x ∷ xs) ys h k = (h.0, each-append P xs ys h.1 k)

-- ---- nodes

-- a name is the same as itself
pub name_is : (name : Name) → same_name name name ≡ true
name_is name = (same_name-Decides name name).1 refl

-- the node that is put is found under its name
pub put_same : {C : Type 0} (node : NodeState C) (nodes : List (NodeState C)) → node_of node.name (put_node node nodes) ≡ Some node
put_same node [] = ap (λ b. cond b (Some node) None) (name_is node.name)
put_same {C} node (other ∷ others) = go (same_name node.name other.name) refl (put_same node others)
  where
    go : (b : Bool) →
        same_name node.name other.name ≡ b →
        node_of node.name (put_node node others) ≡ Some node →
        node_of node.name (if b then node ∷ others else other ∷ put_node node others) ≡ Some node
    go true at later = ap (λ b. cond b (Some node) (node_of node.name others)) (name_is node.name)
    go false at later = ap (λ b. cond b (Some other) (node_of node.name (put_node node others))) at ∙ later

-- and under every other name what was found before
pub put_other : {C : Type 0} (name : Name) (node : NodeState C) (nodes : List (NodeState C)) →
    same_name name node.name ≡ false →
    node_of name (put_node node nodes) ≡ node_of name nodes
put_other name node [] is = ap (λ b. cond b (Some node) None) is
put_other {C} name node (other ∷ others) is = go (same_name node.name other.name) refl (put_other name node others is)
  where
    go : (b : Bool) →
        same_name node.name other.name ≡ b →
        node_of name (put_node node others) ≡ node_of name others →
        node_of name (if b then node ∷ others else other ∷ put_node node others) ≡ node_of name (other ∷ others)
    go true at later =
        let same : node.name ≡ other.name = (same_name-Decides node.name other.name).0 at in
        let apart : same_name name other.name ≡ false = ap (same_name name) (sym same) ∙ is in
        ap (λ b. cond b (Some node) (node_of name others)) is ∙ sym (ap (λ b. cond b (Some other) (node_of name others)) apart)
    go false at later = ap (λ o. cond (same_name name other.name) (Some other) o) later

-- a node that is found has the name
pub found_name : {C : Type 0} (name : Name) (nodes : List (NodeState C)) (found : NodeState C) → node_of name nodes ≡ Some found → name ≡ found.name
found_name name [] found e = let no : None ≡ Some found = e in cc
found_name {C} name (other ∷ others) found e = go (same_name name other.name) refl e (found_name name others found)
  where
    go : (b : Bool) →
        same_name name other.name ≡ b →
        cond b (Some other) (node_of name others) ≡ Some found →
        (node_of name others ≡ Some found → name ≡ found.name) →
        name ≡ found.name
    go true is f later =
        let same : Some other ≡ Some found = f in
        let this : other ≡ found = cc in (same_name-Decides name other.name).0 is ∙ ap (λ (n : NodeState C). n.name) this
    go false is f later = later f
