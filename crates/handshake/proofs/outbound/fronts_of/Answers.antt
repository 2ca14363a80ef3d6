use Rattle.std.proofs.Common.{◌≡◌, length, rules}
use Rattle.handshake.proofs.Lines.{fronts_four}
use Rattle.handshake.proofs.outbound.fronts_of.Goals as goal

pub returns : goal.returns
returns c =
    let xs = c.args.frames in
    let len : length xs ≡ 4 = search rules in
    record {
      bytes =
          fronts_four xs _ c.args.at _ _ _ _ _ _ _ len c.front_of-at.ensures.bytes c.front_of-at.ensures.place c.front_of-at-2.ensures.bytes
          c.front_of-at-2.ensures.place c.front_of-at-3.ensures.bytes c.front_of-at-3.ensures.place c.front_of.ensures.bytes;
    }
