use Rattle.std.proofs.Common.{◌≡◌, ◌++◌, drop, map}
use Rattle.node_threads.specs.LinkText.{spelling, text_since}
use Rattle.node_threads.proofs.Stripping.{mail_since}
use Rattle.node_threads.proofs.cell.opening.mail_since.Given as goal

-- the mail so far and the frames of the steps from here on are the whole text
abbrev pub invariant-loop-place : goal.invariant-loop-place
invariant-loop-place g l = l.mail ++ mail_since l.name (drop l.place l.trace.steps) ≡ map spelling (text_since l.lost l.trace l.name l.since)
