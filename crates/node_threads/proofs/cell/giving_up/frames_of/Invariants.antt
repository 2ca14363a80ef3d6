use Rattle.std.proofs.Common.{◌≡◌, ◌≤◌, length, take}
use Rattle.node_threads.specs.Applying.{mail_for}
use Rattle.node_threads.proofs.cell.giving_up.frames_of.Given as goal

-- the frames so far are those of the packets so far
abbrev pub invariant-loop-send : goal.invariant-loop-send
invariant-loop-send g l = (l.count ≤ length l.given) × (take l.count l.given ≡ mail_for (take l.send-index l.sends) l.peer)
