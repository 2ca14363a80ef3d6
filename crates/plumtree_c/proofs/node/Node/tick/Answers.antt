use Rattle.std.proofs.Common.{◌∙◌, ◌+◌, ap, inl, inr, length, map, subst, sym}
use Rattle.protocol.specs.declared.stimulus.StimulusOf.TheVariants.{Fire}
use Rattle.std.specs.Prelude.{◌%◌, ◌^◌, ℕ}
use Rattle.plumtree_c.specs.State.{Begins, NodeState}
use Rattle.wire_node.proofs.Stepping.{on_err}
use Rattle.plumtree_c.proofs.Runs.{all_fired, runs_ticks}
use Rattle.plumtree_c.proofs.node.Node.tick.Goals as goal

pub returns-clause-ok : goal.returns-clause-ok
returns-clause-ok c =
    let flushed = c.flush.new.self in
    let fired = c.fire_all.new.self in
    let flushes = c.in_ok-flush.ensures.ok in
    let fires = c.in_ok-fire_all.ensures.ok in
    record {
      flushed = flushed;
      fired = fired;
      flushes = flushes;
      fires = fires;
      counted =
          c.in_ok-end_tick.ensures.counted
          ∙ ap (λ (ticks : ℕ). (ticks + 1) % 2 ^ 64) (runs_ticks flushed (map Fire flushed.core.gossip.missing.timers) fired fires ∙ flushes.ticks);
      shuffles = c.in_ok-end_tick.ensures.shuffles;
      stays = c.in_ok-end_tick.ensures.stays;
    }

pub returns-in_err-flush-clause-err : goal.returns-in_err-flush-clause-err
returns-in_err-flush-clause-err c = on_err _ c.from_residual.result (inl c.in_err-flush.ensures.err)

pub returns-in_err-fire_all-clause-err : goal.returns-in_err-fire_all-clause-err
returns-in_err-fire_all-clause-err c = on_err _ c.from_residual-in_err-fire_all.result (inr (record {
  flushed = c.flush.new.self;
  count = c.in_err-fire_all.ensures.err.0;
  flushes = c.in_ok-flush.ensures.ok;
  fires = c.in_err-fire_all.ensures.err.1;
}))

pub returns-in_err-end_tick-clause-err : goal.returns-in_err-end_tick-clause-err
returns-in_err-end_tick-clause-err c =
    let flushed = c.flush.new.self in
    let ids = flushed.core.gossip.missing.timers in
    let all : Begins c.args.self.now c.fire_all.new.self =
    record {
      flushed = flushed;
      count = length ids;
      flushes = c.in_ok-flush.ensures.ok;
      fires = all_fired flushed ids c.fire_all.new.self c.in_ok-fire_all.ensures.ok;
    } in
    on_err _ c.from_residual-in_err-end_tick.result (inr (subst (λ (n : NodeState). Begins c.args.self.now n) (sym c.in_err-end_tick.ensures.err) all))
