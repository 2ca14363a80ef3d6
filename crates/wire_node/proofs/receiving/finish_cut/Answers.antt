use Rattle.std.proofs.Common.{◌<◌, ◌≤◌, ◌+◌, ◌++◌, ℕ, ap, arith, drop, length, refl}
use Rattle.std.proofs.lemmas.List.{length-drop}
use Rattle.wire_node.specs.Receiving.{IsPartial, Takes}
use Rattle.wire_node.proofs.Taking.{kept_all, none_at, resumed, some_at, takes_then}
use Rattle.wire_node.proofs.receiving.finish_cut.Goals as goal

pub loop-engine-preserved : goal.loop-engine-preserved
loop-engine-preserved g c =
    let bytes = c.args.bytes.now in
    let at = c.loop-engine.at in
    let count = c.in-Ok-Some.count in
    let rest = c.after.result.now in
    let left = c.loop-engine.left.items in
    let now = c.complete.new.left.items in
    let p = c.loop-engine.peer in
    let q = c.complete.new.peer in
    let mid = c.loop-engine.engine in
    let new = c.complete.new.engine in
    let draws = g.D.DiceSource.to_come in
    let d = draws c.loop-engine.source in
    let e = draws c.complete.new.source in
    let few =
    some_at (λ (n : ℕ). (n ≤ length rest) × (length now < length left + (n + n)))
    c.in-Ok-Some.field-0 count c.in-Ok-Some.field-0-is c.in-Ok-Some.ensures.within in
    let more =
    some_at (λ (n : ℕ). Takes mid p (left ++ rest) d new q (now ++ drop n rest) e)
    c.in-Ok-Some.field-0 count c.in-Ok-Some.field-0-is c.in-Ok-Some.ensures.some in (
      omega (arith, few.0, ap length c.after.ensures, length-drop at bytes, c.loop-engine.invariant.0),
      c.complete.ensures.few,
      takes_then c.args.engine.now c.args.peer.now (c.args.left.now.items ++ bytes) (draws c.args.source.now) mid p
          (left ++ drop at bytes) d new q (now ++ drop (at + count) bytes) e c.loop-engine.invariant.2
          (resumed mid new p q left now bytes rest at c.after.ensures d e count more),
    )

pub returns-in-Ok-None-clause-taken : goal.returns-in-Ok-None-clause-taken
returns-in-Ok-None-clause-taken g c =
    let bytes = c.args.bytes.now in
    let at = c.loop-engine.at in
    let rest = c.after.result.now in
    let left = c.loop-engine.left.items in
    let now = c.complete.new.left.items in
    let p = c.loop-engine.peer in
    let q = c.complete.new.peer in
    let mid = c.loop-engine.engine in
    let new = c.complete.new.engine in
    let draws = g.D.DiceSource.to_come in
    let d = draws c.loop-engine.source in
    let e = draws c.complete.new.source in
    let all = none_at (Takes mid p (left ++ rest) d new q now e × IsPartial now) c.in-Ok-None.field-0 c.in-Ok-None.field-0-is c.in-Ok-None.ensures.none in (
      e,
      takes_then c.args.engine.now c.args.peer.now (c.args.left.now.items ++ bytes) (draws c.args.source.now) mid p
          (left ++ drop at bytes) d new q (now ++ drop (length bytes) bytes) e c.loop-engine.invariant.2
          (kept_all mid new p q left now bytes rest at c.after.ensures d e all.0),
      refl,
    )
