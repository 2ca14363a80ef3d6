use Rattle.std.proofs.Common.{[], refl, rules, sym}
use Rattle.std.proofs.lemmas.List.Elements.{All-nil}
use Rattle.node_threads.specs.Cell.{lost}
use Rattle.node_threads.specs.Report.{BeginsText}
use Rattle.node_threads.proofs.host.comparing.report_one.Goals as goal

pub returns-in-Ok-None-clause-err : goal.returns-in-Ok-None-clause-err
returns-in-Ok-None-clause-err g c = record {
  before = [];
  outlet = c.args.outlet.now;
  after = [];
  parts = refl;
  begun = All-nil (BeginsText (lost c.args.cell.now.since) c.args.cell.now.trace);
  torn = c.report.ensures.none (search rules);
  its_peer = sym c.peer.ensures;
}
