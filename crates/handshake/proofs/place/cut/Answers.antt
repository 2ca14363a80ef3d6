use Rattle.std.proofs.Common.{arith}
use Rattle.handshake.proofs.Strides.{boundary_cut, empty_cut}
use Rattle.handshake.proofs.place.cut.Goals.{then-loop-place-test+else-not-is_empty, else-loop-place-test}
use Rattle.handshake.proofs.place.cut.Goals as goal

pub returns-clause-value : goal.returns-clause-value
returns-clause-value c = elim c.loop-place-test.branch [
  | then-loop-place-test+else-not-is_empty w ↦ grind (arith, empty_cut)
  | else-loop-place-test w ↦ grind (arith, boundary_cut)
]
