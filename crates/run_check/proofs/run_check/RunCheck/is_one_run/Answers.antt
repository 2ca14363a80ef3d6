-- What was accepted is one run.
use Rattle.frames.specs.Content.{frame_content}
use Rattle.run_check.proofs.Accepting.{one_run}
use Rattle.run_check.proofs.run_check.RunCheck.is_one_run.Goals as goal

pub returns : goal.returns
returns g c all goes =
    one_run g.C.Core.state frame_content g.C.Core.is_sound g.C.Core.starts g.C.Core.steps g.met.C.Core.lawful c.args.self.now.limits all c.args.self.now goes
