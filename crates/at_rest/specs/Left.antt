-- What is kept while a group settles: the places of the nodes at which something is left to do.
use Rattle.std.specs.Prelude.{◌≡◌, ℕ, Bool, List, Option, Some, None, false, length, nat_lt, slice_get}
use Rattle.std.specs.BTreeSet.{BTreeSet, contains}
use Rattle.std.specs.Ordering.{nat_cmp}
use Rattle.node_names.specs.NodeName.{Name}
use Rattle.protocol.specs.CoreState.{CoreState}
use Rattle.world.specs.Group.{core_of}
use Rattle.world.specs.Plan.{names_of}
use Rattle.world.specs.declared.node_state.NodeState.{NodeState}
use Rattle.at_rest.specs.declared.left.Kind.{Kind}
use Rattle.at_rest.specs.declared.left.Kind.TheVariants.{Announcements, Timers}

-- whether something of the kind is left at a core
abbrev pub is_left : Kind → CoreState → Bool
is_left Announcements core = nat_lt 0 (length core.queued)
is_left Timers core = nat_lt 0 (length core.timers)

-- whether something of the kind is left at the core, if one runs
abbrev pub is_left_in : {C : Type 0} → (C → CoreState) → Kind → Option C → Bool
is_left_in state kind None = false
is_left_in state kind (Some core) = is_left kind (state core)

-- whether something of the kind is left at the node of the name, if there is a name
abbrev pub is_left_at : {C : Type 0} → (C → CoreState) → Kind → List (NodeState C) → Option Name → Bool
is_left_at state kind nodes None = false
is_left_at state kind nodes (Some name) = is_left_in state kind (core_of name nodes)

-- The set has the places of the nodes at which something of the kind is left, and no others.
abbrev pub AreLeft : {C : Type 0} → (C → CoreState) → Kind → List (NodeState C) → BTreeSet ℕ → Type 0
AreLeft state kind nodes set = (at : ℕ) → contains nat_cmp set at ≡ is_left_at state kind nodes (slice_get (names_of nodes) at)
