use Rattle.std.proofs.Common.{◌≤◌, ◌<◌, List, true, arith, length, subst, sym}
use Rattle.node_names.specs.NodeName.{Name}
use Rattle.wire_node.specs.Acting.{IsOverfull, Machine, machine}
use Rattle.wire_node.specs.Moving.{Relieves}
use Rattle.wire_node.specs.Waiting.{Waiting, settled_for}
use Rattle.wire_node.proofs.GoingDown.{relieved_all, relieved_many, relieved_some, relieving_more}
use Rattle.wire_node.proofs.downs.relieve.Goals as goal

pub loop-count-preserved : goal.loop-count-preserved
loop-count-preserved g c =
    let noted = g.R.Record.noted in
    let old = machine c.args.core.now c.args.entries.now.items c.args.pending.now (noted c.args.notes.now) c.args.telling.now in
    let mid = machine c.loop-count.core c.loop-count.entries.items c.loop-count.pending (noted c.loop-count.notes) c.loop-count.telling in
    let down = c.take_down.new in
    let new = machine down.core down.entries.items down.pending (noted down.notes) down.telling in
    let full : IsOverfull c.args.limit mid c.in-Some.name =
    subst (λ (ws : List Waiting). c.args.limit < length (settled_for ws c.in-Some.name)) c.deref.ensures.value c.in-Some.ensures.some in (
      c.loop-count.invariant.0,
      omega (arith, c.loop-count-test.true),
      c.take_down.ensures.settled,
      relieving_more c.args.limit old c.args.lost.now c.args.dice.now mid c.loop-count.lost c.loop-count.count c.in-Some.name new down.lost
          c.loop-count.invariant.3 full c.in-Ok.ensures.down c.in-Ok.ensures.lost,
    )

pub returns-in_default : goal.returns-in_default
returns-in_default g c =
    let noted = g.R.Record.noted in
    let old = machine c.args.core.now c.args.entries.now.items c.args.pending.now (noted c.args.notes.now) c.args.telling.now in
    let new = machine c.loop-count.core c.loop-count.entries.items c.loop-count.pending (noted c.loop-count.notes) c.loop-count.telling in
    let few : (name : Name) → length (settled_for new.waiting name) ≤ c.args.limit =
    subst (λ (ws : List Waiting). (name : Name) → length (settled_for ws name) ≤ c.args.limit) c.deref.ensures.value c.in_default.ensures.none in
    record {
      relieved = relieved_all c.args.limit old c.args.lost.now c.args.dice.now new c.loop-count.lost c.loop-count.count c.loop-count.invariant.3 few;
      settled = c.loop-count.invariant.2;
    }

pub returns-in-Err : goal.returns-in-Err
returns-in-Err g c =
    let noted = g.R.Record.noted in
    let old = machine c.args.core.now c.args.entries.now.items c.args.pending.now (noted c.args.notes.now) c.args.telling.now in
    let mid = machine c.loop-count.core c.loop-count.entries.items c.loop-count.pending (noted c.loop-count.notes) c.loop-count.telling in
    let down = c.take_down.new in
    let new = machine down.core down.entries.items down.pending (noted down.notes) down.telling in
    let full : IsOverfull c.args.limit mid c.in-Some.name =
    subst (λ (ws : List Waiting). c.args.limit < length (settled_for ws c.in-Some.name)) c.deref.ensures.value c.in-Some.ensures.some in
    let same = c.in-Err.ensures.err in
    record {
      relieved =
          subst (λ (m : Machine). Relieves c.args.limit old c.args.lost.now c.args.dice.now m down.lost true) (sym same.0)
          (subst (λ (lost : List Name). Relieves c.args.limit old c.args.lost.now c.args.dice.now mid lost true) (sym same.1)
          (relieved_some c.args.limit old c.args.lost.now c.args.dice.now mid c.loop-count.lost c.loop-count.count c.in-Some.name
          c.loop-count.invariant.3 full));
      settled = c.take_down.ensures.settled;
    }

pub returns : goal.returns
returns g c =
    let noted = g.R.Record.noted in
    let old = machine c.args.core.now c.args.entries.now.items c.args.pending.now (noted c.args.notes.now) c.args.telling.now in
    let new = machine c.loop-count.core c.loop-count.entries.items c.loop-count.pending (noted c.loop-count.notes) c.loop-count.telling in
    record {
      relieved =
          relieved_many c.args.limit old c.args.lost.now c.args.dice.now new c.loop-count.lost c.loop-count.count c.loop-count.invariant.3
          (omega (arith, c.loop-count.invariant.0, c.loop-count.invariant.1, c.loop-count-test.false));
      settled = c.loop-count.invariant.2;
    }
