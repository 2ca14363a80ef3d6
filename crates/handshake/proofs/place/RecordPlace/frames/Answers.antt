use Rattle.std.proofs.Common.{◌≡◌, ◌≢◌, ◌<◌, true, length, take, slice_index, sym, subst}
use Rattle.handshake.specs.Place as spec
use Rattle.handshake.proofs.Strides.{frames_stop}
use Rattle.handshake.proofs.place.RecordPlace.frames.Goals as goal

pub returns-clause-stops : goal.returns-clause-stops
returns-clause-stops c fewer =
    let at = c.args.self.now in
    let bytes = c.args.bytes.now in
    let is : c.frames.result ≡ spec.frames at bytes = cc in
    let stop = frames_stop at bytes (subst (λ n. n < length bytes) is fewer) in
    subst (λ n. (spec.is_boundary (spec.after at (take n bytes)) ≡ true) × (slice_index bytes n ≢ 0)) (sym is) stop
