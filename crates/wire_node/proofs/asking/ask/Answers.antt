use Rattle.std.proofs.Common.{inl, inr, subst, sym}
use Rattle.wire_node.specs.Ticking.{Asking, IsAskedFor}
use Rattle.wire_node.proofs.Stepping.{on_err}
use Rattle.wire_node.proofs.Turns.{asked_for, asks_at, still_due}
use Rattle.wire_node.proofs.asking.ask.Goals as goal

pub returns-clause-ok : goal.returns-clause-ok
returns-clause-ok g c =
    asks_at c.args.engine.now c.ask_for.new.engine c.args.asking.now c.begin.new.asking
    c.ask_for.new.asking c.end.new.asking c.args.ticks c.args.dice.now c.is_turn-is_turn.result
    c.is_turn-is_turn.ensures c.begin.ensures c.in_ok-ask_for.ensures.ok c.in_ok-ask_for.ensures.rest c.in_ok-end.ensures.ok

pub returns-in_err-ask_for-clause-left : goal.returns-in_err-ask_for-clause-left
returns-in_err-ask_for-clause-left g c =
    let kept = c.in_err-ask_for.ensures.kept in
    on_err _ c.from_residual.result (inl (still_due c.args.engine.now c.ask_for.new.engine c.args.asking.now c.begin.new.asking
    c.ask_for.new.asking c.args.ticks c.args.dice.now c.is_turn-is_turn.result
    c.is_turn-is_turn.ensures c.begin.ensures c.in_err-ask_for.ensures.err kept.0 kept.1 kept.2))

pub returns-in_err-end-clause-left : goal.returns-in_err-end-clause-left
returns-in_err-end-clause-left g c =
    let same = c.in_err-end.ensures.err in
    on_err _ c.from_residual-in_err-end.result
    (inr (subst (λ (left : Asking). IsAskedFor c.args.engine.now c.args.asking.now c.args.ticks c.args.dice.now c.ask_for.new.engine left) (sym same)
    (asked_for c.args.engine.now c.ask_for.new.engine c.args.asking.now c.begin.new.asking
    c.ask_for.new.asking c.args.ticks c.args.dice.now c.is_turn-is_turn.result
    c.is_turn-is_turn.ensures c.begin.ensures c.in_ok-ask_for.ensures.ok c.in_ok-ask_for.ensures.rest)))
