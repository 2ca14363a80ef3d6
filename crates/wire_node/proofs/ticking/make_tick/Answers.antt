use Rattle.std.proofs.Common.{arith, inl, inr, map, refl, subst, sym}
use Rattle.wire_node.specs.Moving.{Engine, MovesAll, firing}
use Rattle.wire_node.specs.Ticking.{IsAskedFor, armed_of}
use Rattle.wire_node.proofs.Stepping.{on_err}
use Rattle.wire_node.proofs.ticking.make_tick.Goals as goal

pub returns-in_err-ask-clause-err : goal.returns-in_err-ask-clause-err
returns-in_err-ask-clause-err g c =
    let fired = c.in_err-ask.ensures.err in
    on_err _ c.from_residual-in_err-ask.result (inr (record { ids = fired.0; flushed = c.step.new.self; flushes = c.in_ok-step.ensures.ok; fires = fired.1 }))

pub returns-in_err-step-2-clause-err : goal.returns-in_err-step-2-clause-err
returns-in_err-step-2-clause-err g c =
    let flushed = c.step.new.self in
    let asks = c.in_ok-ask.ensures.ok.asks in
    let ids = armed_of flushed asks.front in
    on_err _ c.from_residual-in_err-step-2.result
    (inr (record {
      ids = ids;
      flushed = flushed;
      flushes = c.in_ok-step.ensures.ok;
      fires = subst (λ (e : Engine). MovesAll flushed (map (firing c.args.dice.now) ids) e) (sym c.in_err-step-2.ensures.err) asks.fires;
    }))

pub returns-then-ticks-ne0-clause-ok : goal.returns-then-ticks-ne0-clause-ok
returns-then-ticks-ne0-clause-ok g c = record {
  flushed = c.step.new.self;
  asked = c.ask.new.engine;
  flushes = c.in_ok-step.ensures.ok;
  asks = c.in_ok-ask.ensures.ok;
  shuffles = λ tenth. absurd (omega (arith, tenth, c.if-ticks-ne0.true));
  stays = λ _. refl;
}

pub returns-clause-ok : goal.returns-clause-ok
returns-clause-ok g c = record {
  flushed = c.step.new.self;
  asked = c.ask.new.engine;
  flushes = c.in_ok-step.ensures.ok;
  asks = c.in_ok-ask.ensures.ok;
  shuffles = λ _. c.in_ok-step-2.ensures.ok;
  stays = λ other. absurd (omega (arith, other, c.if-ticks-ne0.false));
}

pub returns-in_err-ask-clause-left : goal.returns-in_err-ask-clause-left
returns-in_err-ask-clause-left g c =
    on_err _ c.from_residual-in_err-ask.result (inr (c.step.new.self, c.in_ok-step.ensures.ok, c.in_err-ask.ensures.left))

pub returns-in_err-step-2-clause-left : goal.returns-in_err-step-2-clause-left
returns-in_err-step-2-clause-left g c =
    let asked = c.in_ok-ask.ensures.ok in
    let all : IsAskedFor c.step.new.self c.args.asking.now c.args.ticks c.args.dice.now c.ask.new.engine c.ask.new.asking =
    record { asks = asked.asks; waits = inl asked.waits } in
    on_err _ c.from_residual-in_err-step-2.result (inr (
      c.step.new.self,
      c.in_ok-step.ensures.ok,
      inr (subst (λ (e : Engine). IsAskedFor c.step.new.self c.args.asking.now c.args.ticks c.args.dice.now e c.ask.new.asking)
          (sym c.in_err-step-2.ensures.err) all),
    ))
