-- What holds of the messages that a node knows and holds.
use Rattle.std.specs.Prelude.{◌≡◌, ℕ, ◌<◌, ◌≤◌, true, List, is_some}
use Rattle.std.specs.FinSet as set
use Rattle.std.specs.List.{AllByRecursion as Each}
use Rattle.std.specs.Map.{lookup}
use Rattle.node_names.specs.NodeName.{Name}
use Rattle.node_names.specs.Order.{id_cmp}
use Rattle.node_names.specs.Same.{same_id}
use Rattle.node_names.specs.declared.ids.Origin.{Origin}
use Rattle.node_names.specs.declared.ids.MsgId.{MsgId}

-- Of this run's own messages, only those with the numbers 1 to `spent` are known.
pub record AreCounted (me : Origin) (known : set.FinSet id_cmp) (spent : ℕ) : Type 0 where
  pub each : (id : MsgId) → set.contains known id ≡ true → id.origin ≡ me → (0 < id.seq) × (id.seq ≤ spent)

-- What is held is known, and so is what waits to be announced. The latter need not be held, so that forgetting payloads
-- keeps this.
pub record AreKnown (known : set.FinSet id_cmp) (held : List (MsgId × List ℕ)) (queued : List (Name × MsgId × ℕ)) : Type 0 where
  pub each_held : (id : MsgId) → is_some (lookup (same_id id) held) ≡ true → set.contains known id ≡ true
  pub each_queued : Each (λ entry. set.contains known entry.1 ≡ true) queued
