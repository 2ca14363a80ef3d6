use Rattle.std.proofs.Common.{◌≡◌, length, rules}
use Rattle.handshake.proofs.Lines.{afters_four}
use Rattle.handshake.proofs.outbound.pass_all.Goals as goal

pub returns : goal.returns
returns c =
    let xs = c.args.frames in
    let len : length xs ≡ 4 = search rules in
    afters_four xs _ c.args.at.now _ _ _ _ c.args.count _ _ _ len c.pass_some-left.ensures.place c.pass_some-left.ensures.left
    c.pass_some-left-2.ensures.place c.pass_some-left-2.ensures.left c.pass_some-left-3.ensures.place c.pass_some-left-3.ensures.left
    c.pass_some.ensures.place
