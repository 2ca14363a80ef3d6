-- One packet more.
use Rattle.std.proofs.Common.{get_or, refl}
use Rattle.at_rest.specs.Unrest.{flight_ids, packet_ids}
use Rattle.at_rest.proofs.Adding.{adds-more, adds-none}
use Rattle.at_rest.proofs.unrest.add_flight.Goals as goal

pub loop-number-init : goal.loop-number-init
loop-number-init g c = adds-none c.args.ids.now.keys

pub loop-number-preserved : goal.loop-number-preserved
loop-number-preserved g c =
    adds-more (packet_ids g.N.Wire.content c.args.sent.now)
    (flight_ids g.N.Wire.content c.args.sent.now)
    refl
    (λ number numbers. refl)
    c.args.flight.now c.loop-number.number-index 0
    (get_or c.args.flight.now c.loop-number.number-index 0)
    c.args.ids.now.keys c.loop-number.ids.keys c.add_packet.new.ids.keys c.loop-number-test.true refl c.loop-number.invariant c.in_ok-add_packet.ensures
