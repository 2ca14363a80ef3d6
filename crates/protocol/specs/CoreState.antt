-- The observable state of a core: every law speaks of this record, and of nothing else in a core.
use Rattle.std.specs.Prelude.{ℕ, Bool, List, Option}
use Rattle.node_names.specs.NodeName.{Name}
use Rattle.node_names.specs.declared.ids.Origin.{Origin}
use Rattle.node_names.specs.declared.ids.MsgId.{MsgId}

-- The state of a core: who it is, which ids it has delivered, the payloads that it holds, the ids of these in order of
-- delivery, its two views, the announcements that wait to be sent (to whom, of which id, at which round), the announced
-- ids that it lacks (which id, by whom, at which round), the ids whose timers are armed, and how many sequence numbers
-- it has spent.
pub record CoreState : Type 0 where
  pub me : Origin
  pub has : MsgId → Bool
  pub payload : MsgId → Option (List ℕ)
  pub held : List MsgId
  pub active : List Name
  pub passive : List Name
  pub queued : List (Name × MsgId × ℕ)
  pub wants : List (MsgId × Name × ℕ)
  pub timers : List MsgId
  pub count : ℕ
