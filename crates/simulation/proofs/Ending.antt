-- What is printed of messages at the end of a run, message by message.
use Rattle.std.proofs.Common.{◌≡◌, List, [], ◌∷◌, false, ap, refl}
use Rattle.std.specs.Prelude.{◌↔◌, not, reverse}
use Rattle.node_names.specs.Same.{has_id}
use Rattle.node_names.specs.declared.ids.MsgId.{MsgId}
use Rattle.world.specs.Group.{Logged}
use Rattle.world.specs.Rest.{IsAtRest}
use Rattle.frames.specs.Content.{frame_content}
use Rattle.frames.specs.Frame.{Frame}
use Rattle.node_core.specs.Plum.{Plum, plum_state}
use Rattle.at_rest.specs.Forest.{branches_at}
use Rattle.at_rest.specs.Tree.{tree_of}
use Rattle.at_rest.specs.declared.branch.Branch.{Branch}
use Rattle.trace_text.specs.Ends.{message_text, messages_text}
use Rattle.simulation.specs.Traced.{TellsMessage}
use Rattle.simulation.specs.Turns.{InTurn}
use Rattle.simulation.proofs.Telling.{told_rest}

-- where these are the messages for which a group is not at rest, and these the trees, each message is told
pub told_messages :
    (group : Logged Plum Frame)
    (unrest : List MsgId)
    (trees : List (MsgId × List Branch)) →
    ((id : MsgId) → (has_id unrest id ≡ false) ↔ IsAtRest plum_state frame_content group.group id) →
    ((id : MsgId) → branches_at id trees ≡ tree_of group.group.sent id (reverse group.log)) →
    (ids : List MsgId) →
    InTurn (TellsMessage group) ids (messages_text group unrest trees ids)
told_messages group unrest trees rests are [] = refl
told_messages group unrest trees rests are (id ∷ ids) = (
  message_text group id (not (has_id unrest id)) (branches_at id trees),
  messages_text group unrest trees ids,
  record {
    rest = not (has_id unrest id);
    is_rest = told_rest _ _ _ refl (rests id);
    written = ap (λ (bs : List Branch). message_text group id (not (has_id unrest id)) bs) (are id);
  },
  told_messages group unrest trees rests are ids,
  refl,
)
