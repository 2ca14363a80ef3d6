use Rattle.std.proofs.Common.{◌≡◌, ◌≤◌, length}
use Rattle.node_threads.specs.Forgetting.{CameOut}
use Rattle.node_threads.proofs.GivingUp.{Reached}
use Rattle.node_threads.proofs.cell.giving_up.came_out.Given as goal

-- all frames so far came out up to here, and up to the last step before all came out
abbrev pub invariant-loop-place : goal.invariant-loop-place
invariant-loop-place g l =
    Reached l.lost l.trace l.peer l.opened l.given l.place l.frames
    × CameOut l.lost l.trace l.peer l.opened l.given l.whole.0 l.whole.1
