-- Links that a node opens by itself to names that its steps sent to.
use Rattle.std.specs.Prelude.{◌≡◌, ◌⊎◌, ◌<◌, ℕ, true, false, List, [], ◌∷◌, ◌++◌, length}
use Rattle.node_names.specs.NodeName.{Name}
use Rattle.node_names.specs.Same.{has_name}
use Rattle.node_threads.specs.Cell.{Cell, is_linked}
use Rattle.node_threads.specs.Opened.{linked_since}
use Rattle.node_threads.specs.Outlet.{Outlet}

-- How many frames the ring of such a link has room for; how many names may be held; the names that are held, each of
-- which has an outlet somewhere; and the outlets that were not taken yet.
pub record Learnt : Type 0 where
  pub ring : ℕ
  pub most : ℕ
  pub names : List Name
  pub outlets : List Outlet

-- the outlet of a link to this name whose text begins when the node had made `since` steps, which has given nothing
abbrev pub outlet_since : ℕ → Name → Outlet
outlet_since since name = record { peer = name; opened = since; given = []; seen = [] }

-- the node with a link to this name whose text begins when the node had made `since` steps
abbrev pub with_link : {C : Type 0} → ℕ → Cell C → Learnt → Name → Cell C
with_link since cell learnt name = record cell { links = linked_since cell name learnt.ring since }

-- the names and outlets, with those of such a link last
abbrev pub with_outlet : ℕ → Learnt → Name → Learnt
with_outlet since learnt name = record learnt { names = learnt.names ++ name ∷ []; outlets = learnt.outlets ++ outlet_since since name ∷ [] }

-- A link to this name may be opened: the name is not held, fewer names are held than may be, and what the link begins
-- with fits its ring.
pub record MayOpen {C : Type 0} (since : ℕ) (cell : Cell C) (learnt : Learnt) (name : Name) : Type 0 where
  pub not_held : has_name learnt.names name ≡ false
  pub fewer : length learnt.names < learnt.most
  pub fits : is_linked (with_link since cell learnt name).links name ≡ true

-- The node opens a link to this name, whose text begins when the node had made `since` steps.
pub record OpensOne {C : Type 0} (since : ℕ) (old : Cell C) (learnt : Learnt) (name : Name) (new : Cell C) (learnt' : Learnt) : Type 0 where
  pub may_open : MayOpen since old learnt name
  pub linked : new ≡ with_link since old learnt name
  pub kept : learnt' ≡ with_outlet since learnt name

-- Each of these names, in order, is opened, or is left as it was and is one of those in `left`.
abbrev pub Opens : {C : Type 0} → ℕ → Cell C → Learnt → List Name → Cell C → Learnt → List Name → Type 0
Opens {C} since old learnt [] new learnt' left = (new ≡ old) × (learnt' ≡ learnt) × (left ≡ [])
Opens {C} since old learnt (name ∷ names) new learnt' left =
    ((mid : Cell C) × (more : Learnt) × OpensOne since old learnt name mid more × Opens since mid more names new learnt' left)
    ⊎ ((rest : List Name) × (left ≡ name ∷ rest) × Opens since old learnt names new learnt' rest)
