-- The ids of packets in flight are added to the empty set, and then those of nodes.
use Rattle.std.proofs.Common.{List, [], subst}
use Rattle.node_names.specs.declared.ids.MsgId.{MsgId}
use Rattle.at_rest.specs.Unrest.{Adds, flight_ids}
use Rattle.at_rest.proofs.Adding.{adds-both}
use Rattle.at_rest.proofs.unrest.unrest_ids.Goals as goal

pub returns : goal.returns
returns g c =
    let From : List MsgId → Type 0 =
    λ ids. Adds ids (flight_ids g.C.Note.Wire.content c.args.world.now.group.sent c.args.world.now.group.flight) c.add_flight.new.ids.keys in
    let flying : From c.new-ids.result.keys = rw c.sent.ensures at (rw c.flight.ensures at c.in_ok-add_flight.ensures) in
    adds-both [] c.add_flight.new.ids.keys c.add_nodes.new.ids.keys _ _ (subst From c.new-ids.ensures.empty flying) c.in_ok-add_nodes.ensures
