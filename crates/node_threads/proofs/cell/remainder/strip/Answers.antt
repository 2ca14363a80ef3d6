use Rattle.std.proofs.Common.{◌∙◌, sym}
use Rattle.std.proofs.lemmas.Bool.{eqb-true}
use Rattle.node_threads.proofs.Stripping.{on, on_end, on_none, on_none_left, mail_at, no_mail}
use Rattle.node_threads.proofs.cell.remainder.strip.Goals as goal

pub returns-then-is_empty : goal.returns-then-is_empty
returns-then-is_empty g c = on_none_left _ _ _ _ c.loop-send.invariant (eqb-true _ _ (sym c.is_empty.ensures ∙ c.if-is_empty.true))

pub returns-in-None : goal.returns-in-None
returns-in-None g c =
    let parts = mail_at c.args.peer.now c.args.sends.now c.loop-send.send-index c.send-item.result c.loop-send-test.true c.send-item.is in
    on_none _ _ _ _ c.loop-send.invariant _ _ parts (rw c.in-None.is at c.in_ok-rest.ensures)

pub loop-send-preserved : goal.loop-send-preserved
loop-send-preserved g c =
    let parts = mail_at c.args.peer.now c.args.sends.now c.loop-send.send-index c.send-item.result c.loop-send-test.true c.send-item.is in
    on _ _ _ _ c.loop-send.invariant _ _ _ parts (rw c.in-Some.is at c.in_ok-rest.ensures)

pub returns : goal.returns
returns g c = on_end _ _ _ _ c.loop-send.invariant (no_mail _ _ _ c.loop-send-test.false)
