-- Without such a packet nothing is listed.
use Rattle.std.proofs.Common.{◌≡◌, ◌++◌, [], append-nil, sym, subst}
use Rattle.std.specs.Option.{option_map_or}
use Rattle.std.specs.Prelude.{Option}
use Rattle.std.proofs.lemmas.Option.{slice_get_past}
use Rattle.world.specs.declared.packet.Packet.{Packet}
use Rattle.frames.specs.Frame.{Frame}
use Rattle.simulation.specs.Flights.{number_if, numbers_at}
use Rattle.simulation.proofs.graph.flights.add_at.Goals as goal

pub returns-in-None : goal.returns-in-None
returns-in-None g c id =
    let Lists : Option (Packet Frame) → Type 0 =
    λ found. numbers_at id c.args.flights.now.entries
    ≡ numbers_at id c.args.flights.now.entries ++ option_map_or (λ (packet : Packet Frame). number_if id c.args.number packet) found [] in
    subst Lists (sym (slice_get_past c.args.sent.now c.args.number c.in-None.ensures.lookup.3)) (sym (append-nil (numbers_at id c.args.flights.now.entries)))
