use Rattle.std.proofs.Common.{ap, ◌∙◌}
use Rattle.handshake.specs.Place as spec
use Rattle.handshake.proofs.Strides.{strides_after, strides_frames, strides_cut}
use Rattle.handshake.proofs.place.stride.Goals as goal

pub returns-in-Body-clause-after : goal.returns-in-Body-clause-after
returns-in-Body-clause-after c =
    let e = c.stride_in_body.ensures in
    ap (λ p. spec.after p c.args.bytes.now) c.in-Body.is ∙ strides_after _ _ _ _ c.if-left-gt0.true e.few e.within e.place

pub returns-in-Body-clause-frames : goal.returns-in-Body-clause-frames
returns-in-Body-clause-frames c on =
    let e = c.stride_in_body.ensures in
    ap (λ p. spec.frames p c.args.bytes.now) c.in-Body.is ∙ strides_frames _ _ _ _ c.if-left-gt0.true e.few e.within e.place

pub returns-in-Body-clause-cut : goal.returns-in-Body-clause-cut
returns-in-Body-clause-cut c on =
    let e = c.stride_in_body.ensures in
    ap (λ p. spec.cut p c.args.bytes.now) c.in-Body.is ∙ strides_cut _ _ _ _ c.if-left-gt0.true e.few e.within e.place
