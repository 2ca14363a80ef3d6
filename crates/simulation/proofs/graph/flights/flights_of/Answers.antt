-- All packets in flight are listed.
use Rattle.std.proofs.Common.{◌∙◌, ◌++◌, ℕ, List, ap}
use Rattle.node_names.specs.declared.ids.MsgId.{MsgId}
use Rattle.world.specs.declared.packet.Packet.{Packet}
use Rattle.frames.specs.Frame.{Frame}
use Rattle.simulation.specs.Flights.{about, numbers_at}
use Rattle.simulation.proofs.graph.flights.flights_of.Goals as goal

pub returns : goal.returns
returns g c id =
    c.in_ok-add_all.ensures id
    ∙ ap (λ (flights : List (MsgId × List ℕ)). numbers_at id flights ++ about id c.sent.result.now c.flight.result.now) c.new-flights.ensures.empty
    ∙ ap (λ (sent : List (Packet Frame)). about id sent c.flight.result.now) c.sent.ensures
    ∙ ap (λ (flight : List ℕ). about id c.args.group.now.group.sent flight) c.flight.ensures
