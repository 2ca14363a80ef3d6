-- What every run keeps of its history and of its group: the invariants that the theorems on runs follow from.
use Rattle.std.proofs.Common.{◌≡◌, ◌∙◌, ◌<◌, ◌≤◌, ℕ, List, [], ◌∷◌, ◌++◌, true, false, ap, refl, subst, sym, zero, suc}
use Rattle.std.specs.List.{AllByRecursion as Each}
use Rattle.std.specs.Prelude.{◌≢◌, Bool, Option, Some, None, IfSome, cond, option_map, slice_get}
use Rattle.node_names.specs.NodeName.{Name}
use Rattle.node_names.specs.Limits.{Limits}
use Rattle.node_names.specs.Same.{same_name}
use Rattle.node_names.specs.declared.ids.Incarnation.{Incarnation}
use Rattle.node_names.specs.declared.ids.MsgId.{MsgId}
use Rattle.node_names.specs.declared.ids.Origin.{Origin}
use Rattle.protocol.specs.Content.{Content}
use Rattle.protocol.specs.CoreState.{CoreState}
use Rattle.world.specs.Entry.{Entry}
use Rattle.world.specs.Group.{node_of, put_node, origin_of}
use Rattle.world.specs.History.{Said, Delivered, broadcasts_of, incarnation_of}
use Rattle.world.specs.Honest.{Honest, Once}
use Rattle.world.specs.declared.node_state.NodeState.{NodeState}
use Rattle.world.specs.declared.packet.Packet.{Packet}
use Rattle.world.proofs.FindLemmas.{put_same, put_other}

-- the incarnation of the name's last start, as the nodes have it
abbrev pub highest_of : {C : Type 0} → Name → List (NodeState C) → Option Incarnation
highest_of {C} name nodes = option_map (λ (node : NodeState C). node.highest) (node_of name nodes)

-- The run was started: the last start of its name is its own or a later one.
pub record IsStarted (history : List Entry) (origin : Origin) : Type 0 where
  pub last : Incarnation
  pub started : incarnation_of origin.name history ≡ Some last
  pub not_later : origin.incarnation.0 ≤ last.0

-- The core is sound and is its node's, counts the broadcasts of the name, holds only what was said, and has what it
-- delivered.
pub record KeepsCore {C : Type 0} (state : C → CoreState) (is_sound : Limits → C → Type 0)
    (limits : Limits) (history : List Entry) (node : NodeState C) (core : C) : Type 0 where
  pub sound : is_sound limits core
  pub is_me : (state core).me ≡ origin_of node
  pub counts : (state core).count ≡ broadcasts_of node.name history
  pub holds : (id : MsgId) (p : List ℕ) → (state core).payload id ≡ Some p → Said history id p
  pub has : (id : MsgId) → Delivered history (state core).me id → (state core).has id ≡ true

-- The packet goes to another than its sender, and carries only what was said.
pub record KeepsPacket {N : Type 0} (content : N → Content) (history : List Entry) (packet : Packet N) : Type 0 where
  pub from_other : packet.sender.name ≢ packet.to
  pub carries : (id : MsgId) (p : List ℕ) → (content packet.note).carried ≡ Some (id, p) → Said history id p

-- What every run keeps of its history, its nodes and the packets that were sent.
pub record Keeps {C N : Type 0} (state : C → CoreState) (content : N → Content) (is_sound : Limits → C → Type 0)
    (limits : Limits) (history : List Entry) (nodes : List (NodeState C)) (sent : List (Packet N)) : Type 0 where
  pub highest : (name : Name) → highest_of name nodes ≡ incarnation_of name history
  pub cores : (name : Name) (node : NodeState C) (core : C) →
      node_of name nodes ≡ Some node →
      node.core ≡ Some core →
      KeepsCore state is_sound limits history node core
  pub sound : Each (λ node. IfSome node.core (λ core. is_sound limits core)) nodes
  pub packets : Each (λ packet. KeepsPacket content history packet) sent
  pub below : (origin : Origin) (id : MsgId) → Delivered history origin id → IsStarted history origin
  pub honest : Honest history
  pub once : Once history

-- the last incarnation of each name, after a node was put
pub highest_of-put : {C : Type 0} (name : Name) (node : NodeState C) (nodes : List (NodeState C)) →
    highest_of name (put_node node nodes) ≡ cond (same_name name node.name) (Some node.highest) (highest_of name nodes)
highest_of-put {C} name node nodes = go (same_name name node.name) refl
  where
    go : (b : Bool) → same_name name node.name ≡ b → highest_of name (put_node node nodes) ≡ cond b (Some node.highest) (highest_of name nodes)
    go true is = ap (λ o. option_map (λ (n : NodeState C). n.highest) o) (put_same name node nodes is)
    go false is = ap (λ o. option_map (λ (n : NodeState C). n.highest) o) (put_other name node nodes is)

-- the last incarnation of the name of a node that is found
pub highest_of-found : {C : Type 0} (name : Name) (nodes : List (NodeState C)) (node : NodeState C) →
    node_of name nodes ≡ Some node →
    highest_of name nodes ≡ Some node.highest
highest_of-found {C} name nodes node e = ap (λ o. option_map (λ (n : NodeState C). n.highest) o) e

-- a start that is fresh among the nodes is of a greater incarnation than the name's last one
pub greater_than-last :
    {C : Type 0}
    (name : Name)
    (incarnation : Incarnation)
    (nodes : List (NodeState C))
    (history : List Entry) →
    highest_of name nodes ≡ incarnation_of name history →
    IfSome (node_of name nodes) (λ node. node.highest.0 < incarnation.0) →
    (last : Incarnation) →
    incarnation_of name history ≡ Some last →
    last.0 < incarnation.0
greater_than-last {C} name incarnation nodes history highest fresh last is = go (node_of name nodes) refl fresh
  where
    go : (o : Option (NodeState C)) → node_of name nodes ≡ o → IfSome o (λ node. node.highest.0 < incarnation.0) → last.0 < incarnation.0
    go (Some before) at less =
        let same : Some before.highest ≡ Some last = sym (highest_of-found name nodes before at) ∙ highest ∙ is in
        let this : before.highest ≡ last = cc in
        subst (λ (i : Incarnation). i.0 < incarnation.0) this less
    go None at less =
        let no : None ≡ Some last = sym (ap (λ o. option_map (λ (n : NodeState C). n.highest) o) at) ∙ highest ∙ is in
        cc

-- what holds of each of two lists holds of each of both together
pub each-append : {X : Type 0} (P : X → Type 0) (xs ys : List X) → Each P xs → Each P ys → Each P (xs ++ ys)
each-append P [] ys h k = k
each-append P (x ∷ xs) ys h k = (h.0, each-append P xs ys h.1 k)

-- what follows for each element holds of each
pub each-weaken : {X : Type 0} (P Q : X → Type 0) (xs : List X) → ((x : X) → P x → Q x) → Each P xs → Each Q xs
each-weaken P Q [] f h = tt
each-weaken P Q (x ∷ xs) f h = (f x h.0, each-weaken P Q xs f h.1)

-- also from two facts
pub each-both : {X : Type 0} (P Q R : X → Type 0) (xs : List X) → ((x : X) → P x → Q x → R x) → Each P xs → Each Q xs → Each R xs
each-both P Q R [] f h k = tt
each-both P Q R (x ∷ xs) f h k = (f x h.0 k.0, each-both P Q R xs f h.1 k.1)

-- what holds of each element holds at each place
pub each-at : {X : Type 0} (P : X → Type 0) (xs : List X) (k : ℕ) (x : X) → Each P xs → slice_get xs k ≡ Some x → P x
each-at P [] k x h e = let no : None ≡ Some x = e in cc
each-at {X} P (y ∷ ys) zero x h e = let is : Some y ≡ Some x = e in let same : y ≡ x = cc in subst P same h.0
each-at P (y ∷ ys) (suc k) x h e = each-at P ys k x h.1 e

-- what holds wherever there is something holds of what follows from it
pub if_some-weaken : {X : Type 0} (P Q : X → Type 0) (o : Option X) → ((x : X) → P x → Q x) → IfSome o P → IfSome o Q
if_some-weaken P Q None f h = tt
if_some-weaken P Q (Some x) f h = f x h
