use Rattle.std.proofs.Common.{◌≡◌, length}
use Rattle.handshake.specs.Place as spec
use Rattle.handshake.proofs.place.after.Given as goal

abbrev pub invariant-loop-rest : goal.invariant-loop-rest
invariant-loop-rest l = spec.after l.place l.rest ≡ spec.after l.fn.start l.bytes

abbrev pub decreases-loop-rest : goal.decreases-loop-rest
decreases-loop-rest l = length l.rest
