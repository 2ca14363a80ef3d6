-- The five parts of a step, one after the other.
use Rattle.std.proofs.Common.{◌∙◌, ◌++◌, ℕ, List, Option, ap, drop, string_bytes}
use Rattle.std.proofs.lemmas.Result.{on_ok_weaker}
use Rattle.node_names.specs.NodeName.{Name}
use Rattle.protocol.specs.Delivery.{Delivery}
use Rattle.world.specs.Entry.{Entry}
use Rattle.world.specs.declared.packet.Packet.{Packet}
use Rattle.frames.specs.Frame.{Frame}
use Rattle.trace_text.specs.Events.{event_line, touched_by}
use Rattle.trace_text.specs.Packets.{sent_lines}
use Rattle.trace_text.specs.Step.{change_under, delivery_lines, flight_line}
use Rattle.trace_text.proofs.Texts.{five}
use Rattle.trace_text.proofs.steps.push_step.Goals as goal

pub returns : goal.returns
returns g c =
    let sent = c.args.after.now.group.sent in
    on_ok_weaker c.push_flight.result (λ told.
    five _ _ _ _ _ _ _ _ _ _ _
    (c.in_ok-push_event.ensures
    ∙ ap (λ (packets : List (Packet Frame)). string_bytes c.args.text.now ++ event_line packets c.args.entry.now) c.sent-2.ensures)
    (c.in_ok-push_deliveries.ensures
    ∙ ap (λ (given : List Delivery). string_bytes c.push_event.new.text ++ delivery_lines given)
    (c.as_slice.ensures ∙ ap (λ (e : Entry). e.given) c.entry.view_is))
    (c.in_ok-push_sent.ensures
    ∙ ap (λ (packets : List (Packet Frame)).
    string_bytes c.push_deliveries.new.text ++ sent_lines c.entry.inside.first_sent (drop c.entry.inside.first_sent packets))
    c.sent-3.ensures
    ∙ ap (λ (e : Entry). string_bytes c.push_deliveries.new.text ++ sent_lines e.first_sent (drop e.first_sent sent)) c.entry.view_is)
    (c.in_ok-push_change_under.ensures
    ∙ ap (λ (name : Option Name). string_bytes c.push_sent.new.text ++ change_under c.args.before.now name c.args.after.now.group.nodes)
    (c.touched_by-name.ensures
    ∙ ap (λ (packets : List (Packet Frame)). touched_by packets c.entry.inside.packet c.entry.inside.event) c.sent.ensures
    ∙ ap (λ (e : Entry). touched_by sent e.packet e.event) c.entry.view_is))
    (told ∙ ap (λ (flight : List ℕ). string_bytes c.push_change_under.new.text ++ flight_line flight) c.flight.ensures)) c.push_flight.ensures
