-- All that was given stays in order, and less waits at each turn.
use Rattle.std.proofs.Common.{◌≡◌, ◌++◌, length}
use Rattle.std.specs.Vec.Iter.{into_iter_items}
use Rattle.rtrb.specs.Ring.{sent}
use Rattle.loop_ports.specs.Outbox.{given}
use Rattle.loop_ports.proofs.outbox.Outbox.send.Given as goal

abbrev pub invariant-loop-self : goal.invariant-loop-self
invariant-loop-self g l = sent l.self-inside.ring ++ into_iter_items l.self-inside.rest ≡ given l.fn.self

abbrev pub decreases-loop-self : goal.decreases-loop-self
decreases-loop-self g l = length (into_iter_items l.self-inside.rest)
