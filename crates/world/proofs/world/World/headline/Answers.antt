-- The log of a group is a run that leads to it, and every run keeps what is promised.
use Rattle.std.proofs.Common.{subst}
use Rattle.std.specs.Prelude.{reverse}
use Rattle.world.specs.Group.{Logged}
use Rattle.world.specs.Run.{Run}
use Rattle.world.proofs.TrafficRuns.{crosses_once}
use Rattle.world.proofs.Parenting.{run_parents}
use Rattle.world.proofs.Resting.{carried_on, delivered_in_reach}
use Rattle.world.proofs.Runs.{honest, once, one_payload, views_sound}
use Rattle.world.proofs.world.World.headline.Goals as goal

pub returns : goal.returns
returns g c =
    let run : Run g.C.Core.state g.C.Core.starts g.C.Core.steps c.args.self.now.limits (reverse c.args.self.now.log) c.args.self.now.group =
    subst (λ (w : Logged g.row.C.Denot g.row.C-Note.Denot). Run g.C.Core.state g.C.Core.starts g.C.Core.steps w.limits (reverse w.log) w.group)
    c.self.view_is c.self.invariant.0 in
    record {
      honest =
          honest g.C.Core.state g.C.Note.Wire.content g.C.Core.is_sound g.C.Core.starts g.C.Core.steps g.met.C.Core.lawful c.args.self.now.limits
          (reverse c.args.self.now.log) c.args.self.now.group run;
      agreed =
          one_payload g.C.Core.state g.C.Note.Wire.content g.C.Core.is_sound g.C.Core.starts g.C.Core.steps g.met.C.Core.lawful c.args.self.now.limits
          (reverse c.args.self.now.log) c.args.self.now.group run;
      once =
          once g.C.Core.state g.C.Note.Wire.content g.C.Core.is_sound g.C.Core.starts g.C.Core.steps g.met.C.Core.lawful c.args.self.now.limits
          (reverse c.args.self.now.log) c.args.self.now.group run;
      views =
          views_sound g.C.Core.state g.C.Note.Wire.content g.C.Core.is_sound g.C.Core.starts g.C.Core.steps g.met.C.Core.lawful c.args.self.now.limits
          (reverse c.args.self.now.log) c.args.self.now.group run;
      parents =
          run_parents g.C.Core.state g.C.Note.Wire.content g.C.Core.is_sound g.C.Core.starts g.C.Core.steps g.met.C.Core.lawful c.args.self.now.limits
          (reverse c.args.self.now.log) c.args.self.now.group run;
      carried =
          carried_on g.C.Core.state g.C.Note.Wire.content g.C.Core.is_sound g.C.Core.starts g.C.Core.steps g.met.C.Core.lawful c.args.self.now.limits
          (reverse c.args.self.now.log) c.args.self.now.group run;
      traffic =
          λ id undisturbed new name peer apart. crosses_once g.C.Core.state g.C.Note.Wire.content g.C.Core.is_sound g.C.Core.starts g.C.Core.steps
          g.met.C.Core.lawful c.args.self.now.limits id name peer apart (reverse c.args.self.now.log) c.args.self.now.group run undisturbed.calm new;
      delivered =
          delivered_in_reach g.C.Core.state g.C.Note.Wire.content g.C.Core.is_sound g.C.Core.starts g.C.Core.steps g.met.C.Core.lawful c.args.self.now.limits
          (reverse c.args.self.now.log) c.args.self.now.group run;
    }
