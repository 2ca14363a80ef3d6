-- Without such a packet nothing is added.
use Rattle.std.proofs.Common.{[], sym, subst}
use Rattle.std.specs.Option.{option_map_or}
use Rattle.std.proofs.lemmas.Option.{slice_get_past}
use Rattle.std.specs.Prelude.{Option}
use Rattle.world.specs.declared.packet.Packet.{Packet}
use Rattle.at_rest.specs.Unrest.{Adds, content_ids}
use Rattle.at_rest.proofs.Adding.{adds-none}
use Rattle.at_rest.proofs.unrest.add_packet.Goals as goal

pub returns-in-None : goal.returns-in-None
returns-in-None g c =
    let Found : Option (Packet g.row.N.Denot) → Type 0 =
    λ found. Adds c.args.ids.now.keys
    (option_map_or (λ (packet : Packet g.row.N.Denot). content_ids (g.N.Wire.content packet.note)) found []) c.args.ids.now.keys in
    subst Found (sym (slice_get_past c.args.sent.now c.args.number c.in-None.ensures.lookup.3)) (adds-none c.args.ids.now.keys)
