use Rattle.std.proofs.Common.{◌∙◌, ◌∷◌, ◌+◌, ap, drop, sym}
use Rattle.std.proofs.lemmas.List.{drop_all, drop_more}
use Rattle.node_threads.specs.Receipts.{Call}
use Rattle.node_threads.proofs.Receipting.{marks_all, marks_break, marks_end, marks_on}
use Rattle.node_threads.proofs.cell.receipts.mark_all.Goals as goal

pub loop-call-preserved : goal.loop-call-preserved
loop-call-preserved g c =
    let calls = c.args.calls.now in
    let i = c.loop-call.call-index in
    let call = c.call-item.result in
    let next = drop_more calls i call c.loop-call-test.true ∙ ap (λ it. it ∷ drop (i + 1) calls) (sym c.call-item.is) in
    let fits = c.if-not-mark_one.ensures in
    marks_on _ _ _ _ (c.loop-call.auto.marks ∙ c.requires) _ _ _ call next c.loop-call.invariant _ _ fits.fits fits.marked
    (ap (λ (it : Call). it.receipt.place + 1) c.call.view_is)

pub returns-then-not-mark_one-clause-unlike : goal.returns-then-not-mark_one-clause-unlike
returns-then-not-mark_one-clause-unlike g c =
    let calls = c.args.calls.now in
    let i = c.loop-call.call-index in
    let call = c.call-item.result in
    let next = drop_more calls i call c.loop-call-test.true ∙ ap (λ it. it ∷ drop (i + 1) calls) (sym c.call-item.is) in
    marks_break _ _ _ _ (c.loop-call.auto.marks ∙ c.requires) _ _ _ call next c.loop-call.invariant c.if-not-mark_one.ensures.unlike

pub returns : goal.returns
returns g c =
    let none = drop_all c.loop-call.call-index c.args.calls.now c.loop-call-test.false in
    record {
      fits = marks_end _ _ _ _ _ _ none c.loop-call.invariant;
      marked = marks_all _ _ _ _ _ _ none c.loop-call.invariant;
      unlike = tt;
    }
