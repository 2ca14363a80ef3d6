-- Without such a packet nothing is added.
use Rattle.std.proofs.Common.{◌≡◌, ◌++◌, [], append-nil, sym, subst}
use Rattle.std.specs.Option.{option_map_or}
use Rattle.std.specs.Prelude.{Option}
use Rattle.std.proofs.lemmas.Option.{slice_get_past}
use Rattle.world.specs.declared.packet.Packet.{Packet}
use Rattle.frames.specs.Frame.{Frame}
use Rattle.trace_text.specs.Collected.{text_at}
use Rattle.trace_text.specs.Ends.{flying_line}
use Rattle.trace_text.proofs.under_way.add_flying_at.Goals as goal

pub returns-in-None : goal.returns-in-None
returns-in-None g c id =
    let Tells : Option (Packet Frame) → Type 0 =
    λ found. text_at id c.args.texts.now.entries
    ≡ text_at id c.args.texts.now.entries ++ option_map_or (λ (packet : Packet Frame). flying_line id c.args.place packet) found [] in
    subst Tells (sym (slice_get_past c.args.sent.now c.args.place c.in-None.ensures.lookup.3)) (sym (append-nil (text_at id c.args.texts.now.entries)))
