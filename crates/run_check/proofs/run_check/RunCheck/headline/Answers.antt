-- What holds of every group holds of the one that is followed.
use Rattle.std.proofs.Common.{sym, subst}
use Rattle.std.specs.Prelude.{reverse}
use Rattle.std.proofs.lemmas.List.{reverse-reverse}
use Rattle.world.specs.Run.{Run}
use Rattle.world.proofs.TrafficRuns.{crosses_once}
use Rattle.world.proofs.Parenting.{run_parents}
use Rattle.world.proofs.Resting.{carried_on, delivered_in_reach}
use Rattle.world.proofs.Runs.{honest, once, one_payload, views_sound}
use Rattle.frames.specs.Content.{frame_content}
use Rattle.run_check.proofs.run_check.RunCheck.headline.Goals as goal

pub returns : goal.returns
returns g c = λ past group follows.
    let limits = c.args.self.now.limits in
    let history = reverse (reverse past) in
    let run : Run g.C.Core.state g.C.Core.starts g.C.Core.steps limits history group =
    subst (λ es. Run g.C.Core.state g.C.Core.starts g.C.Core.steps limits es group) (sym (reverse-reverse past)) follows.ran in
    record {
      honest = honest g.C.Core.state frame_content g.C.Core.is_sound g.C.Core.starts g.C.Core.steps g.met.C.Core.lawful limits history group run;
      agreed = one_payload g.C.Core.state frame_content g.C.Core.is_sound g.C.Core.starts g.C.Core.steps g.met.C.Core.lawful limits history group run;
      once = once g.C.Core.state frame_content g.C.Core.is_sound g.C.Core.starts g.C.Core.steps g.met.C.Core.lawful limits history group run;
      views = views_sound g.C.Core.state frame_content g.C.Core.is_sound g.C.Core.starts g.C.Core.steps g.met.C.Core.lawful limits history group run;
      parents = run_parents g.C.Core.state frame_content g.C.Core.is_sound g.C.Core.starts g.C.Core.steps g.met.C.Core.lawful limits history group run;
      carried = carried_on g.C.Core.state frame_content g.C.Core.is_sound g.C.Core.starts g.C.Core.steps g.met.C.Core.lawful limits history group run;
      traffic =
          λ id undisturbed new name peer apart. crosses_once g.C.Core.state frame_content g.C.Core.is_sound g.C.Core.starts
          g.C.Core.steps g.met.C.Core.lawful limits id name peer apart history group run undisturbed.calm new;
      delivered = delivered_in_reach g.C.Core.state frame_content g.C.Core.is_sound g.C.Core.starts g.C.Core.steps g.met.C.Core.lawful limits history group run;
    }
