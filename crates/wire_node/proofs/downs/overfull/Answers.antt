use Rattle.std.proofs.Common.{◌≡◌, ◌≤◌, ◌<◌, ◌∙◌, All, ap, arith, length, subst, sym}
use Rattle.std.proofs.lemmas.List.{take_all}
use Rattle.std.proofs.lemmas.List.Elements.{All-more}
use Rattle.wire_node.specs.Waiting.{Waiting, settled_for}
use Rattle.wire_node.proofs.Apart.{waits_in}
use Rattle.wire_node.proofs.GoingDown.{few_for}
use Rattle.wire_node.proofs.downs.overfull.Goals as goal

pub loop-entry-preserved : goal.loop-entry-preserved
loop-entry-preserved g c =
    let P = λ (w : Waiting). length w.settled ≤ c.args.limit in
    All-more P c.args.entries.now c.loop-entry.entry-index c.entry-item.result
    (omega (arith, c.loop-entry-test.true))
    c.loop-entry.invariant
    (subst P c.entry-item.is (omega (arith, c.if-len-limit.false, c.len.ensures)))

pub returns-then-len-limit-clause-some : goal.returns-then-len-limit-clause-some
returns-then-len-limit-clause-some g c =
    let ws = c.args.entries.now in
    let i = c.loop-entry.entry-index in
    let e : Waiting = c.entry-item.result in
    let within : i < length ws = omega (arith, c.loop-entry-test.true) in
    let waits : settled_for ws c.name.result ≡ e.settled =
    ap (settled_for ws) (c.name.ensures ∙ ap (λ (w : Waiting). w.name) c.entry-item.is)
    ∙ waits_in ws i e within c.requires
    ∙ ap (λ (w : Waiting). w.settled) (sym c.entry-item.is) in
    omega (arith, ap length waits, c.if-len-limit.true, c.len.ensures)

pub returns-clause-none : goal.returns-clause-none
returns-clause-none g c =
    let P = λ (w : Waiting). length w.settled ≤ c.args.limit in
    few_for c.args.limit c.args.entries.now
    (subst (All P) (take_all c.loop-entry.entry-index c.args.entries.now (omega (arith, c.loop-entry-test.false))) c.loop-entry.invariant)
