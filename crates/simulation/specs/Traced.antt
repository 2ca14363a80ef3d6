-- The trace of a run, step by step.
use Rattle.std.specs.Prelude.{◌≡◌, ◌↔◌, ℕ, zero, suc, Bool, IsTrue, List, [], ◌++◌, length, reverse}
use Rattle.std.specs.Prelude.{Option, Some, None, slice_get, codes, IsPermutation, IsSorted}
use Rattle.std.specs.Fmt.{decimal}
use Rattle.std.specs.Io.KnownBytes.{Appends}
use Rattle.at_rest.specs.Tree.{tree_of}
use Rattle.frames.specs.Content.{frame_content}
use Rattle.frames.specs.Frame.{Frame}
use Rattle.node_core.specs.Plum.{Plum, plum_state}
use Rattle.node_core.specs.Steps.{PlumStarts, PlumSteps}
use Rattle.node_names.specs.Limits.{Limits}
use Rattle.node_names.specs.Order.{id_cmp}
use Rattle.node_names.specs.declared.ids.MsgId.{MsgId}
use Rattle.rand_core.specs.Stream.{Stream}
use Rattle.trace_text.specs.Events.{touched_parts}
use Rattle.trace_text.specs.Step.{step_text}
use Rattle.trace_text.specs.Ends.{message_text, nodes_text}
use Rattle.protocol.specs.Delivery.{Delivery}
use Rattle.world.specs.Entry.{Entry}
use Rattle.world.specs.Event.{Event}
use Rattle.world.specs.Group.{Logged}
use Rattle.world.specs.Rest.{IsAtRest}
use Rattle.world.specs.Run.{Applied}
use Rattle.simulation.specs.Play.{delivered, empty_group, PlaysActions}
use Rattle.simulation.specs.Rolls.{rolls_of}
use Rattle.simulation.specs.Trees.{broadcasts_of}
use Rattle.simulation.specs.Turns.{InTurn}
use Rattle.scenario.specs.declared.action.Action.{Action}

-- the beginning of a step: its place among all steps, and the event of the scenario that it belongs to
abbrev pub label_text : ℕ → Option ℕ → List ℕ
label_text place None = codes "step " ++ decimal place ++ codes ": "
label_text place (Some number) = codes "step " ++ decimal place ++ codes " event " ++ decimal number ++ codes ": "

-- The text says what an event did to a group: its packets, deliveries and changes, whatever its label is.
pub record TellsStep (place : ℕ) (event : Event) (before after : Logged Plum Frame) (text : List ℕ) : Type 0 where
  pub number : Option ℕ
  pub given : List Delivery
  pub applied : Applied plum_state PlumStarts PlumSteps event given before after
  pub written : text ≡ label_text place number ++ step_text (touched_parts before event) after applied.entry

-- The text says what the first events of a log, the given number of them, did as a run from a group without nodes, each
-- once and in order.
abbrev pub TellsSteps : Limits → List Entry → ℕ → Logged Plum Frame → List ℕ → Type 0
TellsSteps limits log zero run text = (run ≡ empty_group limits) × (text ≡ [])
TellsSteps limits log (suc n) run text = (before : Logged Plum Frame) × (earlier : List ℕ) × (step : List ℕ) × (entry : Entry)
    × TellsSteps limits log n before earlier
    × (slice_get log n ≡ Some entry)
    × TellsStep n entry.event before run step
    × (text ≡ earlier ++ step)

module _ (group : Logged Plum Frame) where
  -- The text is what is printed for a message at the end of a run: whether the group is at rest for it, which nodes
  -- lack it, and what is under way.
  pub record TellsMessage (id : MsgId) (text : List ℕ) : Type 0 where
    pub rest : Bool
    pub is_rest : IsTrue rest ↔ IsAtRest plum_state frame_content group.group id
    pub written : text ≡ message_text group id rest (tree_of group.group.sent id (reverse group.log))

  -- The text is what is printed for a group at the end of a run: each node, then each message that was broadcast, in
  -- the order of their ids, and a summary.
  pub record TellsEnd (text : List ℕ) : Type 0 where
    pub ids : List MsgId
    pub messages : List ℕ
    pub summary : List ℕ
    pub all_messages : IsPermutation (broadcasts_of (delivered group)) ids
    pub in_order : IsSorted id_cmp ids
    pub told : InTurn TellsMessage ids messages
    pub written : text ≡ (nodes_text group ++ messages) ++ summary

-- The output gains the trace of the events of a group's log as such a run, why the run was stopped, if it was, and the
-- group at the end.
pub record TellsGroup (group : Logged Plum Frame) (before after : Option (List ℕ)) : Type 0 where
  pub run : Logged Plum Frame
  pub steps : List ℕ
  pub stop : List ℕ
  pub end : List ℕ
  pub told : TellsSteps group.limits group.log (length group.log) run steps
  pub ended : TellsEnd run end
  pub written : Appends before after (steps ++ stop ++ end)

-- The output gains the trace of a group that played these actions.
pub record Traces (most : ℕ) (seed : Option ℕ) (limits : Limits) (actions : List Action) (before after : Option (List ℕ)) : Type 0 where
  pub group : Logged Plum Frame
  pub rolls : Option Stream
  pub played : PlaysActions plum_state PlumStarts PlumSteps most actions
      (record { rolls = rolls_of seed; group = empty_group limits }) (record { rolls = rolls; group = group })
  pub told : TellsGroup group before after
