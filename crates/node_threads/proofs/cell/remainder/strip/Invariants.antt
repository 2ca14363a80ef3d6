use Rattle.std.proofs.Common.{drop}
use Rattle.node_threads.specs.Applying.{mail_for}
use Rattle.node_threads.proofs.Stripping.{GoesOn}
use Rattle.node_threads.proofs.cell.remainder.strip.Given as goal

-- what is left after the packets from here on is what is left after all
abbrev pub invariant-loop-send : goal.invariant-loop-send
invariant-loop-send g l = GoesOn l.fn.given (mail_for l.sends l.peer) l.given (mail_for (drop l.send-index l.sends) l.peer)
