-- Without such a packet nothing is appended.
use Rattle.std.proofs.Common.{◌≡◌, ◌++◌, append-nil, string_bytes, sym, subst}
use Rattle.std.specs.Prelude.{Option}
use Rattle.std.proofs.lemmas.Option.{slice_get_past}
use Rattle.frames.specs.Frame.{Frame}
use Rattle.world.specs.declared.packet.Packet.{Packet}
use Rattle.simulation.specs.Graph.{flying_line}
use Rattle.simulation.proofs.graph.flying.push_numbered.Goals as goal

pub returns-in-None : goal.returns-in-None
returns-in-None g c =
    let Tells : Option (Packet Frame) → Type 0 =
    λ found. string_bytes c.args.text.now ≡ string_bytes c.args.text.now ++ flying_line c.args.id.now c.args.group.now.group.nodes c.args.number.now found in
    subst Tells (sym (rw c.sent.ensures at (slice_get_past c.sent.result.now c.args.number.now c.in-None.ensures.lookup.3)))
    (sym (append-nil (string_bytes c.args.text.now)))
