use Rattle.std.proofs.Common.{◌≡◌, ℕ}
use Rattle.std.specs.BTreeSet.{contains}
use Rattle.std.specs.Ordering.{nat_cmp}
use Rattle.std.specs.Prelude.{◌&&◌, nat_lt, slice_get}
use Rattle.world.specs.Plan.{names_of}
use Rattle.at_rest.specs.Left.{is_left_at}
use Rattle.at_rest.proofs.left.places_of.Given as goal

-- the nodes so far have their places
abbrev pub invariant-loop-at : goal.invariant-loop-at
invariant-loop-at g l =
    (at : ℕ) →
    contains nat_cmp l.places at ≡ (nat_lt at l.at && is_left_at g.C.Core.state l.kind l.world.group.nodes (slice_get (names_of l.world.group.nodes) at))
