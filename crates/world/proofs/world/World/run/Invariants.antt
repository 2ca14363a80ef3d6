use Rattle.std.proofs.Common.{take}
use Rattle.world.specs.Play.{Plays}
use Rattle.world.proofs.world.World.run.Given as goal

-- the events so far are played
abbrev pub invariant-loop-at : goal.invariant-loop-at
invariant-loop-at g l = Plays g.C.Core.state g.C.Core.starts g.C.Core.steps 0 (take l.at l.events) l.given.items l.initial.self l.self
