use Rattle.std.proofs.Common.{◌≡◌, take}
use Rattle.simulation.specs.Drawn.{shown_of}
use Rattle.simulation.proofs.outcome.shown.Given as goal

abbrev pub invariant-loop-message : goal.invariant-loop-message
invariant-loop-message g l = l.shown.items ≡ shown_of l.only (take l.message-index l.messages)
