use Rattle.std.proofs.Common.{◌≡◌, [], ◌∷◌, ◌++◌, inl, inr, refl, arith}
use Rattle.std.proofs.lemmas.Result.{err_from_is_err_and, IfOk-at_ok}
use Rattle.frames.specs.Reading.{times}
use Rattle.frames.proofs.Times.{goes_on, stops, is_done, alone-ok, alone-err, alone-trailing}
use Rattle.frames.proofs.list.list.Goals as goal

pub returns-in_err-item : goal.returns-in_err-item
returns-in_err-item g c =
    let p = err_from_is_err_and c.from_residual.result c.from_residual.ensures.1 in
    rw (p.1, p.2) (inl (alone-err _ _ _ (stops _ _ _ _ _ _ _ (omega arith) c.in_err-item.ensures c.loop.invariant.2)))

pub loop-preserved : goal.loop-preserved
loop-preserved g c = (
  c.loop.invariant.0 ++ c.in_ok-item.item ∷ [],
  c.keep.ensures _ c.loop.invariant.1,
  goes_on _ _ _ _ _ _ _ _ (omega arith) c.in_ok-item.ensures c.loop.invariant.2,
)

pub returns-in_err-end : goal.returns-in_err-end
returns-in_err-end g c =
    let p = err_from_is_err_and c.from_residual-in_err-end.result c.from_residual-in_err-end.ensures.1 in
    rw (p.1, p.2) (inl (alone-trailing _ _ _ _ _ (is_done _ _ _ _ _ _ (omega arith) c.loop.invariant.2) c.in_err-end.ensures))

pub returns-in_err-items : goal.returns-in_err-items
returns-in_err-items g c =
    let p = err_from_is_err_and c.from_residual-in_err-items.result c.from_residual-in_err-items.ensures.1 in
    let read =
    alone-ok (times c.args.count g.T.Item.reader) _ _ _ c.loop.invariant.0 (is_done _ _ _ _ _ _ (omega arith) c.loop.invariant.2) c.in_ok-end.ensures in
    rw (p.1, p.2) (inr (refl, rw read refl))

pub returns : goal.returns
returns g c =
    let read =
    alone-ok (times c.args.count g.T.Item.reader) _ _ _ c.loop.invariant.0 (is_done _ _ _ _ _ _ (omega arith) c.loop.invariant.2) c.in_ok-end.ensures in
    let kept = IfOk-at_ok (λ v. v.items ≡ c.loop.invariant.0) c.in_ok-items.was c.loop.invariant.1 in
    rw (c.from_vec.ensures, kept) read
