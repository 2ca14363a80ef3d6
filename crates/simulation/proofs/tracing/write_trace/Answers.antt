-- The steps are written, and then the end.
use Rattle.std.proofs.Common.{◌++◌, append_assoc}
use Rattle.simulation.proofs.Oks.{on_ok_weaker}
use Rattle.simulation.proofs.Texts.{written}
use Rattle.simulation.proofs.tracing.write_trace.Goals as goal

pub returns : goal.returns
returns g c =
    let (steps, told, appended) = c.in_ok-run.ensures in
    on_ok_weaker c.write_ending.result _ _ (λ ending. record {
      run = c.in_ok-run.run';
      steps = steps;
      stop = ending.0;
      end = ending.1;
      told = told;
      ended = ending.2;
      written = written _ _ _ steps (ending.0 ++ ending.1) ((steps ++ ending.0) ++ ending.1) appended ending.3 (append_assoc steps ending.0 ending.1);
    }) c.write_ending.ensures
