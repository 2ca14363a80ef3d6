use Rattle.std.proofs.Common.{◌≡◌, ◌+◌, ◌++◌, length}
use Rattle.node_core.specs.Steps.{numbered}
use Rattle.node_core.proofs.output.number_all.Given as goal

-- the bodies so far are numbered, and the others are left
abbrev pub invariant-loop-to : goal.invariant-loop-to
invariant-loop-to g l =
    (goal.iterator-loop-to g).can_next l.to-iterator ×
    (goal.iterator-loop-to g).is_finite l.to-iterator ×
    (l.yielded ++ l.to-iterator.rest.items ≡ l.fn.bodies) ×
    (l.number ≡ l.framed + length l.yielded) ×
    (l.frames ≡ l.initial.frames ++ numbered l.me l.framed l.yielded)
