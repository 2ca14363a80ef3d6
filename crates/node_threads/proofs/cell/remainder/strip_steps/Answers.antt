use Rattle.std.proofs.Common.{◌≡◌, ◌∙◌, sym, rules}
use Rattle.std.proofs.lemmas.Bool.{eqb-true}
use Rattle.node_threads.proofs.Stripping.{on, on_end, on_none, on_none_left, is_there, mail_since_at, no_steps}
use Rattle.node_threads.proofs.cell.remainder.strip_steps.Goals as goal

pub returns-then-is_empty : goal.returns-then-is_empty
returns-then-is_empty g c = on_none_left _ _ _ _ c.loop-place.invariant (eqb-true _ _ (sym c.is_empty.ensures ∙ c.if-is_empty.true))

pub unreachable-requires : goal.unreachable-requires
unreachable-requires g c = is_there c.args.trace.now.steps c.loop-place.place (search rules) c.in_default.ensures

pub returns-in-None : goal.returns-in-None
returns-in-None g c =
    let sends : c.as_slice.result.now ≡ c.in-Some.step.now.out.sends = search rules in
    let parts = mail_since_at c.args.peer.now c.args.trace.now.steps c.loop-place.place c.in-Some.step.now c.as_slice.result.now c.in-Some.ensures sends in
    on_none _ _ _ _ c.loop-place.invariant _ _ parts (rw c.in-None.is at c.in_ok-rest.ensures)

pub loop-place-preserved : goal.loop-place-preserved
loop-place-preserved g c =
    let sends : c.as_slice.result.now ≡ c.in-Some.step.now.out.sends = search rules in
    let parts = mail_since_at c.args.peer.now c.args.trace.now.steps c.loop-place.place c.in-Some.step.now c.as_slice.result.now c.in-Some.ensures sends in
    on _ _ _ _ c.loop-place.invariant _ _ _ parts (rw c.in-Some-2.is at c.in_ok-rest.ensures)

pub returns : goal.returns
returns g c = on_end _ _ _ _ c.loop-place.invariant (no_steps c.args.peer.now c.args.trace.now.steps c.loop-place.place (search rules))
