-- Packets in flight, announcements and timers are added in turn.
use Rattle.std.proofs.Common.{◌∙◌, ◌++◌, ℕ, List, [], ap}
use Rattle.node_names.specs.declared.ids.MsgId.{MsgId}
use Rattle.world.specs.declared.node_state.NodeState.{NodeState}
use Rattle.world.specs.declared.packet.Packet.{Packet}
use Rattle.frames.specs.Frame.{Frame}
use Rattle.node_core.specs.Plum.{Plum}
use Rattle.trace_text.specs.Collected.{text_at}
use Rattle.trace_text.specs.Ends.{flying_lines, queued_lines, timer_lines}
use Rattle.trace_text.proofs.Texts.{three}
use Rattle.trace_text.proofs.under_way.under_way.Goals as goal

pub returns : goal.returns
returns g c id =
    three [] _ _ _ _ _ _
    (c.in_ok-add_flying.ensures id
    ∙ ap (λ (texts : List (MsgId × List ℕ)). text_at id texts ++ flying_lines id c.sent.result.now c.flight.result.now) c.new-texts.ensures.empty
    ∙ ap (λ (sent : List (Packet Frame)). flying_lines id sent c.flight.result.now) c.sent.ensures
    ∙ ap (λ (flight : List ℕ). flying_lines id c.args.world.now.group.sent flight) c.flight.ensures)
    (c.in_ok-add_queued.ensures id
    ∙ ap (λ (nodes : List (NodeState Plum)). text_at id c.add_flying.new.texts.entries ++ queued_lines id nodes) c.nodes.ensures)
    (c.in_ok-add_timers.ensures id
    ∙ ap (λ (nodes : List (NodeState Plum)). text_at id c.add_queued.new.texts.entries ++ timer_lines id nodes) c.nodes-2.ensures)
