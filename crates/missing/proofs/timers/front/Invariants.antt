use Rattle.std.proofs.Common.{◌-◌, length}
use Rattle.missing.specs.Slots.{AreGone}
use Rattle.missing.proofs.timers.front.Given as goal

abbrev pub invariant-loop-at : goal.invariant-loop-at
invariant-loop-at l = AreGone l.at l.slots

abbrev pub decreases-loop-at : goal.decreases-loop-at
decreases-loop-at l = length l.slots - l.at
