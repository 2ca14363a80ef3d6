use Rattle.std.proofs.Common.{arith, ap, sym, ◌∙◌}
use Rattle.frames.specs.Reading.{version}
use Rattle.frames.proofs.Decoded.{parts_within}
use Rattle.frames.proofs.decoding.whole.Goals as goal

pub from_parts-requires : goal.from_parts-requires
from_parts-requires g c =
    parts_within c.args.body.now _ _ _ _ _ _ _ _ _ (λ i. omega (arith, c.type_inv.body i)) (ap version (sym c.new-fields.ensures) ∙ c.in_ok-version.ensures)
    c.in_ok-kind.ensures c.in_ok-sender.ensures c.in_ok-number.ensures c.in_ok-body.ensures
