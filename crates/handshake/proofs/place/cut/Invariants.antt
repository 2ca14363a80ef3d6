use Rattle.std.proofs.Common.{◌≡◌, ◌+◌, ◌-◌, ◌≤◌, length}
use Rattle.handshake.specs.Place as spec
use Rattle.handshake.proofs.place.cut.Given as goal

abbrev pub invariant-loop-place : goal.invariant-loop-place
invariant-loop-place l = (length l.rest ≤ length l.bytes) × (length l.bytes - length l.rest + spec.cut l.place l.rest ≡ spec.cut l.fn.start l.bytes)

abbrev pub decreases-loop-place : goal.decreases-loop-place
decreases-loop-place l = length l.rest
