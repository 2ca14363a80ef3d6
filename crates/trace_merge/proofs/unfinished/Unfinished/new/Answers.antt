-- The run of one trace more is there; and in the end all are.
use Rattle.std.proofs.Common.{◌<◌, List, arith, length}
use Rattle.std.proofs.lemmas.Option.{slice_get_within}
use Rattle.protocol.specs.Trace.{Trace}
use Rattle.frames.specs.Frame.{Frame}
use Rattle.trace_merge.proofs.LeftLemmas.{all_left, named_more, there_more}
use Rattle.trace_merge.proofs.unfinished.Unfinished.new.Goals as goal

pub loop-at-preserved : goal.loop-at-preserved
loop-at-preserved g c =
    let traces : List (Trace Frame) = c.args.traces.now in
    record {
      named =
          named_more traces c.loop-at.at c.index-traces-at.result c.origin.result c.loop-at-test.true c.index-traces-at.is
          c.origin.ensures c.loop-at.runs c.insert.new.self c.in_ok-insert.ensures.updates.0 c.loop-at.invariant.named;
      there =
          there_more traces c.loop-at.at c.index-traces-at.result c.origin.result c.loop-at-test.true c.index-traces-at.is
          c.origin.ensures c.loop-at.runs c.insert.new.self c.in_ok-insert.ensures.updates.0 c.loop-at.invariant.there;
    }

pub returns : goal.returns
returns g c =
    all_left c.args.traces.now c.loop-at.runs c.loop-at.invariant.named
    (λ i t listed. (
    let within : i < length c.args.traces.now = slice_get_within c.args.traces.now i t listed in
    let low : i < c.loop-at.at = omega (arith, within, c.loop-at-test.false) in
    c.loop-at.invariant.there i t low listed))
