use Rattle.std.proofs.Common.{◌≡◌, ◌+◌, ◌++◌, arith, take, sym, ap, subst, ◌∙◌}
use Rattle.links.proofs.Giving.{pumps_first, pumps_on, pumps_lost, on_err, on_ok, IsPumped, pumped_on, pumped_still, piece_few, read_few}
use Rattle.links.specs.Counting.{counted}
use Rattle.links.proofs.Counts.{counted_more, unrisen}
use Rattle.links.proofs.pumping.pump.Goals as goal
use Rattle.links.proofs.pumping.pump.Goals.{in-Ok+else-is_err+in_default-give, in-Err+else-rose}

pub returns-in-Some-clause-frames : goal.returns-in-Some-clause-frames
returns-in-Some-clause-frames g c = pumps_first _ _ _ _ _ _ _ _ c.in-Some.is c.give.ensures.given

pub returns-then-is_err-clause-frames : goal.returns-then-is_err-clause-frames
returns-then-is_err-clause-frames g c =
    let kept = on_err (c.feed.new.self ≡ c.loop.cutter) c.feed.result (sym c.is_err.ensures.value ∙ c.if-is_err.true) c.feed.ensures.err in
    pumps_lost _ _ _ _ _ _ _ _ c.loop.invariant.pumped.0 c.loop.invariant.pumped.1 _ c.loop.invariant.pumped.2
    c.loop.invariant.pumped.3 c.loop.invariant.pumped.4 c.in-Ok.ensures.bytes.0 kept
    _ (read_few _ _ c.loop.counter _ c.loop.invariant.pumped.6 (piece_few c.in-Ok.n c.read_counted.new.buf (omega arith)) (omega arith))

pub returns-in-Some-give-clause-frames : goal.returns-in-Some-give-clause-frames
returns-in-Some-give-clause-frames g c =
    let fed =
    on_ok (c.feed.new.self ≡ c.loop.cutter ++ take c.in-Ok.n c.read_counted.new.buf) c.feed.result
    (sym c.is_err.ensures.value ∙ c.if-is_err.false) c.feed.ensures.ok in
    pumps_on _ _ _ _ _ _ _ _ _ _ _ c.loop.invariant.pumped.0 c.loop.invariant.pumped.1 _ c.loop.invariant.pumped.2
    c.loop.invariant.pumped.3 c.loop.invariant.pumped.4 c.in-Ok.ensures.bytes.0 fed _ c.in-Some-give.is c.give-in-Ok.ensures.given
    _ (read_few _ _ c.loop.counter _ c.loop.invariant.pumped.6 (piece_few c.in-Ok.n c.read_counted.new.buf (omega arith)) (omega arith))

pub loop-preserved : goal.loop-preserved
loop-preserved g c = record {
  pumped = elim c.match-read_counted.branch [
    | in-Ok+else-is_err+in_default-give w ↦
        let fed =
        on_ok (w.feed.new.self ≡ c.loop.cutter ++ take w.in-Ok.n c.read_counted.new.buf) w.feed.result
        (sym w.is_err.ensures.value ∙ w.if-is_err.false) w.feed.ensures.ok in
        subst (λ s. IsPumped (c.loop.counter + 1) c.args.cutter.now c.match-read_counted.cutter (g.S.Sink.taken c.args.sink.now)
        (g.S.Sink.taken s) (g.R.Read.remaining c.args.reader.now) (g.R.Read.remaining c.read_counted.new.self))
        (sym w.sink-is)
        (subst (λ t. IsPumped (c.loop.counter + 1) c.args.cutter.now t (g.S.Sink.taken c.args.sink.now)
        (g.S.Sink.taken w.give-in-Ok.new.sink) (g.R.Read.remaining c.args.reader.now) (g.R.Read.remaining c.read_counted.new.self)) (sym w.cutter-is)
        (pumped_on c.loop.counter _ _ _ _ _ _ _ _ _ _ _ c.loop.invariant.pumped w.in-Ok.ensures.bytes.0 fed w.in_default-give.ensures.given
        (piece_few w.in-Ok.n c.read_counted.new.buf (omega arith))))
    | in-Err+else-rose w ↦
        subst (λ s. IsPumped (c.loop.counter + 1) c.args.cutter.now c.match-read_counted.cutter (g.S.Sink.taken c.args.sink.now)
        (g.S.Sink.taken s) (g.R.Read.remaining c.args.reader.now) (g.R.Read.remaining c.read_counted.new.self))
        (sym w.sink-is)
        (subst (λ t. IsPumped (c.loop.counter + 1) c.args.cutter.now t (g.S.Sink.taken c.args.sink.now)
        (g.S.Sink.taken c.loop.sink) (g.R.Read.remaining c.args.reader.now) (g.R.Read.remaining c.read_counted.new.self)) (sym w.cutter-is)
        (pumped_still c.loop.counter _ _ _ _ _ _ _ c.loop.invariant.pumped w.in-Err.ensures.bytes))
  ];
  reads = c.read_counted.ensures.counts ∙ ap (λ n. counted n 1) c.loop.invariant.reads ∙ counted_more _ c.loop.counter;
  willing = elim c.match-read_counted.branch [
    | in-Ok+else-is_err+in_default-give w ↦ ap g.S.Sink.refusals w.sink-is ∙ w.in_default-give.ensures.willing (λ e. absurd cc) ∙ c.loop.invariant.willing
    | in-Err+else-rose w ↦ ap g.S.Sink.refusals w.sink-is ∙ c.loop.invariant.willing
  ];
  failed = elim c.match-read_counted.branch [
    | in-Ok+else-is_err+in_default-give w ↦ w.in-Ok.ensures.ok ∙ c.loop.invariant.failed
    | in-Err+else-rose w ↦
        unrisen _ _ _ _ _ c.failures-before.ensures w.failures.ensures c.loop.invariant.failed w.in-Err.ensures.err (sym w.rose.ensures ∙ w.if-rose.false)
  ];
}
