-- The names in reach of a name, the nearer ones first.
use Rattle.std.specs.Prelude.{◌≡◌, ◌↔◌, ◌⊎◌, ◌<◌, ℕ, List, [], ◌∷◌, true}
use Rattle.std.specs.List.{AllByRecursion as Each}
use Rattle.std.specs.declared.cmp.Ordering.TheVariants.{Less}
use Rattle.node_names.specs.NodeName.{Name}
use Rattle.node_names.specs.Order.{name_cmp}
use Rattle.node_names.specs.Same.{has_name}
use Rattle.protocol.specs.CoreState.{CoreState}
use Rattle.world.specs.Group.{Group}
use Rattle.world.specs.Links.{Path, Reaches}

module _ {C N : Type 0} (state : C → CoreState) (group : Group C N) (from : Name) where
  -- The shortest path to the name has `n` links.
  pub record IsDistance (n : ℕ) (end : Name) : Type 0 where
    pub path : Path state group n from end
    pub shortest : (m : ℕ) → m < n → Path state group m from end → ⊥

  -- The first name is nearer than the other, or equally near and before it by name.
  abbrev pub IsNearer : Name → Name → Type 0
  IsNearer one other = (m n : ℕ) → IsDistance m one → IsDistance n other → (m < n) ⊎ ((m ≡ n) × (name_cmp one other ≡ Less))

  -- Each name is nearer than all names after it.
  abbrev pub AreByDistance : List Name → Type 0
  AreByDistance [] = Unit {0}
  AreByDistance (name ∷ names) = Each (λ other. IsNearer name other) names × AreByDistance names

  -- The names are those in reach, by the length of the shortest path and then by name, so that each occurs once.
  pub record AreInReach (names : List Name) : Type 0 where
    pub exact : (end : Name) → (has_name names end ≡ true) ↔ Reaches state group from end
    pub ordered : AreByDistance names
