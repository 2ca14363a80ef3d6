-- What holds of the two views of every node.
use Rattle.std.specs.Prelude.{◌≡◌, ◌≤◌, false, length}
use Rattle.std.specs.List.{IsDistinct}
use Rattle.node_names.specs.Limits.{Limits}
use Rattle.protocol.specs.CoreState.{CoreState}
use Rattle.node_names.specs.Same.{same_name, has_name}

-- Each view is within its bound, names no node twice, and does not name its owner.
pub record SoundViews (limits : Limits) (core : CoreState) : Type 0 where
  pub active_within : length core.active ≤ limits.active
  pub passive_within : length core.passive ≤ limits.passive
  pub active_distinct : IsDistinct same_name core.active
  pub passive_distinct : IsDistinct same_name core.passive
  pub active_of_others : has_name core.active core.me.name ≡ false
  pub passive_of_others : has_name core.passive core.me.name ≡ false
