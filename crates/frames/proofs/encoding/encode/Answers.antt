use Rattle.std.proofs.Common.{◌≡◌, ◌^◌, ◌<◌, sym, arith, length, ap, subst}
use Rattle.frames.proofs.Encoded.{body_fits, spells, over_whole}
use Rattle.frames.proofs.Streams.{prefix_free}
use Rattle.frames.proofs.encoding.encode.Goals as goal

pub put_length-requires-clause-few : goal.put_length-requires-clause-few
put_length-requires-clause-few g c =
    let l : length c.in_ok-out.out.items ≡ 4 = c.in_ok-out.ensures in
    subst (λ t. length t < 2 ^ 32) (sym c.as_mut_slice.ensures.value)
    (body_fits _ c.in_ok-out.out.items c.put_frame.new.out.items l c.in_ok-put_frame.ensures).1

pub returns-clause-spelled : goal.returns-clause-spelled
returns-clause-spelled g c =
    let l : length c.in_ok-out.out.items ≡ 4 = c.in_ok-out.ensures in
    let long = (body_fits _ c.in_ok-out.out.items c.put_frame.new.out.items l c.in_ok-put_frame.ensures).0 in
    let whole : c.put_frame.new.out.len ≡ length c.put_frame.new.out.items =
    omega (arith, c.as_mut_slice.ensures.len, ap length c.as_mut_slice.ensures.value) in
    spells _ c.in_ok-out.out.items c.put_frame.new.out.items _ l c.in_ok-put_frame.ensures
    (over_whole _ _ _ _ _ whole c.as_mut_slice.ensures.value long c.put_length.ensures c.in_ok-from_vec.ensures.ok)

pub returns-clause-alone : goal.returns-clause-alone
returns-clause-alone g c f spelling x y s e = prefix_free c.args.frame.now f c.in_ok-from_vec.field-0 spelling x y (returns-clause-spelled g c) s e
