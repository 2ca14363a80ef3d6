use Rattle.std.proofs.Common.{◌≡◌, subst, sym}
use Rattle.std.specs.Bool.{Decides}
use Rattle.std.specs.Cmp.Lexicographic.{bytes_decides}
use Rattle.step_records.proofs.block.are_same.Goals as goal

pub returns : goal.returns
returns c = subst (λ b. Decides b (c.args.one.now ≡ c.args.other.now)) (sym c.eq.ensures) (bytes_decides c.args.one.now c.args.other.now)
