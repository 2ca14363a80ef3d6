-- How the trees of messages are printed.
use Rattle.std.specs.Prelude.{◌≡◌, ◌↔◌, ℕ, Bool, true, false, IsTrue, List, [], ◌∷◌, ◌++◌, Option, Some, None, codes, filter, map, reverse}
use Rattle.node_names.specs.Ids.{origin_text, msg_id_text}
use Rattle.node_names.specs.Same.{same_origin}
use Rattle.node_names.specs.declared.ids.MsgId.{MsgId}
use Rattle.node_names.specs.declared.ids.Origin.{Origin}
use Rattle.protocol.specs.Content.{Content}
use Rattle.protocol.specs.CoreState.{CoreState}
use Rattle.protocol.specs.Delivery.{Delivery}
use Rattle.world.specs.Group.{Logged}
use Rattle.world.specs.Rest.{IsAtRest}
use Rattle.at_rest.specs.Tree.{tree_of}
use Rattle.at_rest.specs.declared.branch.Branch.{Branch}
use Rattle.simulation.specs.Turns.{InTurn}

-- the messages that their own origin delivered, which it does when it broadcasts them
abbrev pub broadcasts_of : List Delivery → List MsgId
broadcasts_of deliveries = map (λ d. d.id) (filter (λ d. same_origin d.node d.id.origin) deliveries)

-- the word that says whether a group is at rest
abbrev pub rest_word : Bool → List ℕ
rest_word true = codes "yes"
rest_word false = codes "no"

-- the run that a message came from, or a dash for the origin's own delivery
abbrev pub parent_text : Option Origin → List ℕ
parent_text None = codes "-"
parent_text (Some parent) = origin_text parent

-- the line of a branch, after two spaces
abbrev pub branch_line : Branch → List ℕ
branch_line b = codes "  " ++ origin_text b.node ++ codes " <- " ++ parent_text b.parent ++ codes "\n"

-- the lines of branches, in their order
abbrev pub branch_lines : List Branch → List ℕ
branch_lines [] = []
branch_lines (b ∷ bs) = branch_line b ++ branch_lines bs

-- the lines of a message: whether the group is at rest for it, and the branches of its tree
abbrev pub tree_lines : MsgId → Bool → List Branch → List ℕ
tree_lines id rest branches = codes "tree " ++ msg_id_text id ++ codes " rest " ++ rest_word rest ++ codes "\n" ++ branch_lines branches

module _ {C N : Type 0} (state : C → CoreState) (content : N → Content) (group : Logged C N) where
  -- The text is what is printed for a message in this group.
  pub record TellsTree (id : MsgId) (text : List ℕ) : Type 0 where
    pub rest : Bool
    pub is_rest : IsTrue rest ↔ IsAtRest state content group.group id
    pub written : text ≡ tree_lines id rest (tree_of group.group.sent id (reverse group.log))

  -- The text is what is printed for the messages, one after the other.
  abbrev pub TellsTrees : List MsgId → List ℕ → Type 0
  TellsTrees ids text = InTurn TellsTree ids text
