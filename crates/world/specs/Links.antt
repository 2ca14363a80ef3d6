-- Who is linked to whom in a group, and who is in reach.
use Rattle.std.specs.Prelude.{◌≡◌, ◌↔◌, ℕ, zero, suc, Some, true}
use Rattle.node_names.specs.NodeName.{Name}
use Rattle.node_names.specs.Limits.{Limits}
use Rattle.node_names.specs.Same.{has_name}
use Rattle.std.specs.List.{AllByRecursion as Each}
use Rattle.std.specs.Option.{IfSome}
use Rattle.protocol.specs.CoreState.{CoreState}
use Rattle.protocol.specs.SoundViews.{SoundViews}
use Rattle.world.specs.Group.{Group, node_of}
use Rattle.world.specs.declared.node_state.NodeState.{NodeState}

-- The core runs under the name.
abbrev pub Runs : {C N : Type 0} → Group C N → Name → C → Type 0
Runs {C} group name core = (node : NodeState C) × (node_of name group.nodes ≡ Some node) × (node.core ≡ Some core)

-- Some core runs under the name.
abbrev pub IsRunning : {C N : Type 0} → Group C N → Name → Type 0
IsRunning {C} group name = (core : C) × Runs group name core

-- Both names run, and the second is in the active view of the first.
abbrev pub Linked : {C N : Type 0} → (C → CoreState) → Group C N → Name → Name → Type 0
Linked {C} state group name peer = (core : C) × Runs group name core × (has_name (state core).active peer ≡ true) × IsRunning group peer

-- Links go both ways, and every active member of a running node runs.
pub record IsSymmetric {C N : Type 0} (state : C → CoreState) (group : Group C N) : Type 0 where
  pub both_ways : (name peer : Name) → Linked state group name peer ↔ Linked state group peer name
  pub members_run : (name peer : Name) (core : C) → Runs group name core → has_name (state core).active peer ≡ true → IsRunning group peer

-- A path of this number of links leads from the first name to the second, and the first runs.
abbrev pub Path : {C N : Type 0} → (C → CoreState) → Group C N → ℕ → Name → Name → Type 0
Path state group zero name end = (name ≡ end) × IsRunning group name
Path state group (suc n) name end = (next : Name) × Linked state group name next × Path state group n next end

-- A path leads from the first name to the second.
abbrev pub Reaches : {C N : Type 0} → (C → CoreState) → Group C N → Name → Name → Type 0
Reaches state group name end = (n : ℕ) × Path state group n name end

-- The views of every running node are sound.
abbrev pub ViewsAreSound : {C N : Type 0} → (C → CoreState) → Limits → Group C N → Type 0
ViewsAreSound {C} state limits group = Each (λ node. IfSome node.core (λ core. SoundViews limits (state core))) group.nodes
