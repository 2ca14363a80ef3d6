use Rattle.std.proofs.Common.{◌≡◌}
use Rattle.links.specs.Counting.{counted}
use Rattle.links.proofs.Giving.{IsPumped}
use Rattle.links.proofs.pumping.pump.Given as goal

abbrev pub invariant-loop : goal.invariant-loop
invariant-loop g l = record {
  pumped : IsPumped l.counter l.fn.cutter l.cutter (g.S.Sink.taken l.fn.sink)
      (g.S.Sink.taken l.sink) (g.R.Read.remaining l.fn.reader) (g.R.Read.remaining l.reader);
  reads : g.R.MeteredRead.reads l.reader ≡ counted (g.R.MeteredRead.reads l.fn.reader) l.counter;
  willing : g.S.Sink.refusals l.sink ≡ g.S.Sink.refusals l.fn.sink;
  failed : g.R.MeteredRead.failed l.reader ≡ g.R.MeteredRead.failed l.fn.reader;
}
