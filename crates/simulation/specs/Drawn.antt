-- What is drawn for a group that played a scenario.
use Rattle.std.specs.Prelude.{ℕ, Bool, true, List, filter, Option, Some, None, IsPermutation, IsSorted}
use Rattle.std.specs.Io.KnownBytes.{Appends}
use Rattle.frames.specs.Frame.{Frame}
use Rattle.node_core.specs.Plum.{Plum, plum_state}
use Rattle.node_core.specs.Steps.{PlumStarts, PlumSteps}
use Rattle.node_names.specs.Limits.{Limits}
use Rattle.node_names.specs.Order.{id_cmp}
use Rattle.node_names.specs.Same.{same_id}
use Rattle.node_names.specs.declared.ids.MsgId.{MsgId}
use Rattle.rand_core.specs.Stream.{Stream}
use Rattle.world.specs.Group.{Logged}
use Rattle.simulation.specs.Graph.{DrawsGroup}
use Rattle.simulation.specs.Play.{delivered, empty_group, PlaysActions}
use Rattle.simulation.specs.Rolls.{rolls_of}
use Rattle.simulation.specs.Trees.{broadcasts_of}
use Rattle.scenario.specs.declared.action.Action.{Action}

-- whether a message is shown: all are, or only the one that was asked for
abbrev pub is_shown : Option MsgId → MsgId → Bool
is_shown None id = true
is_shown (Some only) id = same_id only id

-- the messages that are shown
abbrev pub shown_of : Option MsgId → List MsgId → List MsgId
shown_of only ids = filter (is_shown only) ids

-- The output gains the drawing of a group: of its nodes, and of those messages that were broadcast and are shown, in
-- the order of their ids.
pub record DrawsShown (only : Option MsgId) (group : Logged Plum Frame) (before after : Option (List ℕ)) : Type 0 where
  pub messages : List MsgId
  pub text : List ℕ
  pub all_messages : IsPermutation (broadcasts_of (delivered group)) messages
  pub in_order : IsSorted id_cmp messages
  pub drawn : DrawsGroup group (shown_of only messages) text
  pub written : Appends before after text

-- The output gains the drawing of a group that played these actions.
pub record Draws (most : ℕ) (only : Option MsgId) (seed : Option ℕ) (limits : Limits) (actions : List Action) (before after : Option (List ℕ)) : Type 0 where
  pub group : Logged Plum Frame
  pub rolls : Option Stream
  pub played : PlaysActions plum_state PlumStarts PlumSteps most actions
      (record { rolls = rolls_of seed; group = empty_group limits }) (record { rolls = rolls; group = group })
  pub drawn : DrawsShown only group before after
