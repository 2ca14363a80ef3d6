-- Without such a packet nothing is appended.
use Rattle.std.proofs.Common.{◌≡◌, ◌++◌, [], append-nil, string_bytes, sym, subst}
use Rattle.std.specs.Option.{option_map_or}
use Rattle.std.specs.Prelude.{Option}
use Rattle.std.proofs.lemmas.Option.{slice_get_past}
use Rattle.world.specs.declared.packet.Packet.{Packet}
use Rattle.frames.specs.Frame.{Frame}
use Rattle.trace_text.specs.Packets.{packet_item}
use Rattle.trace_text.proofs.packets.push_maybe_packet.Goals as goal

pub returns-in-None : goal.returns-in-None
returns-in-None g c =
    let Tells : Option (Packet Frame) → Type 0 =
    λ found.
    string_bytes c.args.text.now ≡ string_bytes c.args.text.now ++ option_map_or (λ (packet : Packet Frame). packet_item c.args.place packet) found [] in
    subst Tells (sym (slice_get_past c.args.sent.now c.args.place c.in-None.ensures.lookup.3)) (sym (append-nil (string_bytes c.args.text.now)))
