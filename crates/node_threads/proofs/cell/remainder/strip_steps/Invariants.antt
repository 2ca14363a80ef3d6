use Rattle.std.proofs.Common.{drop, map}
use Rattle.node_threads.specs.LinkText.{spelling, text_of}
use Rattle.node_threads.proofs.Stripping.{GoesOn}
use Rattle.node_threads.proofs.cell.remainder.strip_steps.Given as goal

-- what is left after the steps from here on is what is left after all since the link was opened
abbrev pub invariant-loop-place : goal.invariant-loop-place
invariant-loop-place g l =
    GoesOn l.fn.given (map spelling (text_of l.peer (drop l.opened l.trace.steps))) l.given (map spelling (text_of l.peer (drop l.place l.trace.steps)))
