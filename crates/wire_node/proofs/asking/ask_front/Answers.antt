use Rattle.std.proofs.Common.{◌≡◌, ◌≤◌, ◌-◌, ◌++◌, ◌∙◌, List, ap, arith, length, map, rules, subst, sym, take}
use Rattle.std.proofs.lemmas.List.{drop_all, take-append-drop}
use Rattle.node_names.specs.declared.ids.MsgId.{MsgId}
use Rattle.wire_node.specs.Moving.{MovesAll, firing}
use Rattle.wire_node.specs.Ticking.{armed_of}
use Rattle.wire_node.proofs.Stepping.{on_err}
use Rattle.wire_node.proofs.Stops.{ask_memory}
use Rattle.wire_node.proofs.Turns.{fired_first, fired_none}
use Rattle.wire_node.proofs.asking.ask_front.Goals as goal

pub returns-clause-ok : goal.returns-clause-ok
returns-clause-ok g c =
    let old = c.args.engine.now in
    let due = c.args.due.now.items in
    let before = c.args.asked.now.items in
    let count = c.in_ok-armed.count in
    let armed = c.in_ok-armed.armed.items in
    let its : armed ≡ armed_of old (take count due) =
    c.in_ok-armed.ensures.armed ∙ ap (λ (ids : List MsgId). armed_of old (take count ids)) c.as_slice.ensures.value in
    record {
      front = take count due;
      parts = sym (take-append-drop count due) ∙ ap (λ (ids : List MsgId). take count due ++ ids) (sym c.drop_front.ensures);
      fires =
          subst (λ (ids : List MsgId). MovesAll old (map (firing c.args.dice.now) ids) c.fire_each.new.engine)
          (c.as_slice-3.ensures.value ∙ its) c.in_default.ensures.ok;
      few =
          subst (λ (ids : List MsgId). length ids ≤ 128 - length before) its
          (omega (arith, c.in_ok-armed.ensures.few, c.saturating_sub-most.ensures, c.len.ensures));
      many = λ less.
          let all : count ≡ length c.as_slice.result.now =
          c.in_ok-armed.ensures.many (omega (arith, less, ap length its, c.saturating_sub-most.ensures, c.len.ensures)) in
          c.drop_front.ensures ∙ drop_all count due (omega (arith, all, ap length c.as_slice.ensures.value));
      noted = c.in_ok-extend_from_slice.ensures.items ∙ ap (λ (ids : List MsgId). before ++ ids) (c.as_slice-2.ensures.value ∙ its);
    }

pub returns-in_err-armed-clause-why : goal.returns-in_err-armed-clause-why
returns-in_err-armed-clause-why g c = ask_memory c.args.engine.now.machine.core c.from_residual.result (search rules)

pub returns-in_err-extend_from_slice-clause-why : goal.returns-in_err-extend_from_slice-clause-why
returns-in_err-extend_from_slice-clause-why g c =
    ask_memory c.args.engine.now.machine.core c.from_residual-in_err-extend_from_slice.result (search rules)

pub returns-in_err-armed-clause-err : goal.returns-in_err-armed-clause-err
returns-in_err-armed-clause-err g c = on_err _ c.from_residual.result (fired_none c.args.engine.now c.args.dice.now c.args.due.now.items)

pub returns-in_err-extend_from_slice-clause-err : goal.returns-in_err-extend_from_slice-clause-err
returns-in_err-extend_from_slice-clause-err g c =
    on_err _ c.from_residual-in_err-extend_from_slice.result (fired_none c.args.engine.now c.args.dice.now c.args.due.now.items)

pub returns-in-Err-clause-err : goal.returns-in-Err-clause-err
returns-in-Err-clause-err g c =
    let old = c.args.engine.now in
    let due = c.args.due.now.items in
    let its : c.as_slice-3.result.now ≡ armed_of old (take c.in_ok-armed.count due) =
    c.as_slice-3.ensures.value
    ∙ c.in_ok-armed.ensures.armed
    ∙ ap (λ (ids : List MsgId). armed_of old (take c.in_ok-armed.count ids)) c.as_slice.ensures.value in
    fired_first old c.fire_each.new.engine c.args.dice.now due c.as_slice-3.result.now c.in_ok-armed.count c.in-Err.ensures.err.0 its c.in-Err.ensures.err.1
