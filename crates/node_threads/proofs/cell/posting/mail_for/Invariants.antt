use Rattle.std.proofs.Common.{◌≡◌, take}
use Rattle.node_threads.specs.Applying.{mail_for}
use Rattle.node_threads.proofs.cell.posting.mail_for.Given as goal

-- the mail of the packets so far
abbrev pub invariant-loop-send : goal.invariant-loop-send
invariant-loop-send g l = l.mail ≡ mail_for (take l.send-index l.sends) l.peer
