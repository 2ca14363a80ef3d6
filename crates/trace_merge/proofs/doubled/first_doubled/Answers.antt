-- One run more is seen, or was; and in the end all are.
use Rattle.std.proofs.Common.{◌≡◌, ◌<◌, ℕ, List, arith, false, length, true}
use Rattle.std.specs.List.{list_any}
use Rattle.std.proofs.lemmas.Option.{slice_get_within}
use Rattle.node_names.specs.Same.{same_origin}
use Rattle.node_names.specs.declared.ids.Origin.{Origin}
use Rattle.protocol.specs.Trace.{Trace}
use Rattle.frames.specs.Frame.{Frame}
use Rattle.trace_merge.proofs.DistinctLemmas.{distinct_more, doubled_from, known_more, not_passed, passed_before, seen_more}
use Rattle.trace_merge.proofs.doubled.first_doubled.Goals as goal

pub loop-trace-preserved : goal.loop-trace-preserved
loop-trace-preserved g c =
    let traces : List (Trace Frame) = c.args.traces.now in
    let n : ℕ = c.loop-trace.trace-index in
    let t : Trace Frame = c.trace-item.result in
    let o : Origin = c.origin-origin.result in
    let old : List Origin = c.loop-trace.seen.keys in
    let new : List Origin = c.insert.new.self.keys in
    let fresh : list_any (same_origin o) old ≡ false = not_passed _ c.in_ok-insert.field-0 c.in_ok-insert.ensures.added c.if-not-branch.false in
    record {
      seen =
          seen_more traces n t o c.loop-trace-test.true c.trace-item.is c.origin-origin.ensures
          old new c.in_ok-insert.ensures.updates.0 c.loop-trace.invariant.seen;
      known =
          known_more traces n t o c.loop-trace-test.true c.trace-item.is c.origin-origin.ensures
          old new c.in_ok-insert.ensures.updates.0 c.loop-trace.invariant.known;
      distinct =
          distinct_more traces n t o c.loop-trace-test.true c.trace-item.is c.origin-origin.ensures
          old c.loop-trace.invariant.seen fresh c.loop-trace.invariant.distinct;
    }

pub returns-then-not-branch-clause-doubled : goal.returns-then-not-branch-clause-doubled
returns-then-not-branch-clause-doubled g c =
    let o : Origin = c.origin-origin.result in
    let was : list_any (same_origin o) c.loop-trace.seen.keys ≡ true =
    passed_before _ c.in_ok-insert.field-0 c.in_ok-insert.ensures.added c.if-not-branch.true in
    doubled_from c.args.traces.now c.loop-trace.trace-index c.trace-item.result o c.loop-trace-test.true c.trace-item.is c.origin-origin.ensures
    (c.loop-trace.invariant.known o was)

pub returns-clause-distinct : goal.returns-clause-distinct
returns-clause-distinct g c = λ i j s t listed named same.
    let below : i < length c.args.traces.now = slice_get_within c.args.traces.now i s listed in
    let beneath : j < length c.args.traces.now = slice_get_within c.args.traces.now j t named in
    let lower : i < c.loop-trace.trace-index = omega arith in
    let under : j < c.loop-trace.trace-index = omega arith in
    c.loop-trace.invariant.distinct i j s t lower under listed named same
