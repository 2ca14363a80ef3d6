-- What a start yields, whatever numbers were spent before.
use Rattle.std.specs.Prelude.{◌≡◌, ℕ, List}
use Rattle.node_names.specs.NodeName.{Name}
use Rattle.node_names.specs.Limits.{Limits}
use Rattle.node_names.specs.declared.ids.Origin.{Origin}
use Rattle.protocol.specs.Laws.{StartLaws}
use Rattle.frames.specs.Content.{frame_content}
use Rattle.frames.specs.Frame.{Frame}
use Rattle.node_core.specs.Plum.{Plum, IsSoundPlum, plum_state}

-- The core is sound, has spent `spent` message numbers, and apart from these it has started as the laws require.
pub record IsStarted (spent : ℕ) (limits : Limits) (me : Origin) (peers : List Name) (sends : List (Name × Frame)) (core : Plum) : Type 0 where
  pub sound : IsSoundPlum limits core
  pub counted : (plum_state core).count ≡ spent
  pub lawful : StartLaws frame_content me peers sends (record (plum_state core) { count = 0 })
