-- The log of a group is a run that leads to it.
use Rattle.std.proofs.Common.{subst}
use Rattle.std.specs.Prelude.{reverse}
use Rattle.world.specs.Group.{Logged}
use Rattle.world.specs.Run.{Run}
use Rattle.world.proofs.world.World.history.Goals as goal

pub returns : goal.returns
returns g c =
    subst (λ (w : Logged g.row.C.Denot g.row.C-Note.Denot). Run g.C.Core.state g.C.Core.starts g.C.Core.steps w.limits (reverse w.log) w.group)
    c.self.view_is c.self.invariant.0
