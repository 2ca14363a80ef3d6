use Rattle.std.proofs.Common.{◌≡◌, length, map, Ok, sym, ap, subst, ◌∙◌}
use Rattle.handshake.specs.Inbound.{frame_byte, frames, run}
use Rattle.handshake.specs.State.{State}
use Rattle.handshake.proofs.Runs.{frames_run}
use Rattle.handshake.proofs.inbound.Inbound.pass.Goals as goal

pub returns-clause-run : goal.returns-clause-run
returns-clause-run c all =
    let s : State = record { is_open = c.self.inside.is_open; place = c.self.inside.place; kept = c.self.inside.kept } in
    let bytes = c.args.bytes.now in
    let given = frames_run s bytes (subst (λ t. frames t bytes ≡ length bytes) (sym c.self.view_is) all) in
    ap (λ t. run t bytes) (sym c.self.view_is) ∙ given ∙ ap (λ p. Ok (record s { place = p }, map frame_byte bytes)) (sym c.pass.ensures)
