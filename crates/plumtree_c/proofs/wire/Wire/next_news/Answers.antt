use Rattle.std.proofs.lemmas.Option.{IfSome_then}
use Rattle.plumtree_c.specs.Wire.{Informs}
use Rattle.plumtree_c.specs.declared.plain.PlainNews.{PlainNews}
use Rattle.plumtree_c.proofs.Waits.{informs_on, none_both, none_waits}
use Rattle.plumtree_c.proofs.wire.Wire.next_news.Goals as goal

pub returns-clause-some : goal.returns-clause-some
returns-clause-some c =
    let old = c.args.self.now in
    let mid = c.refill_news.new.self in
    let new = c.bring_first.new.self in
    IfSome_then c.bring_first.result
    {P = λ (its : PlainNews). Informs its mid new}
    {Q = λ (its : PlainNews). Informs its old new}
    c.bring_first.ensures.some
    (λ (its : PlainNews) informs. informs_on old mid new its c.in_ok-refill_news.ensures.ok informs)

pub returns-clause-none : goal.returns-clause-none
returns-clause-none c =
    none_both c.bring_first.result
    (none_waits c.args.self.now c.refill_news.new.self c.bring_first.new.self c.in_ok-refill_news.ensures.ok c.in_ok-refill_news.ensures.all)
    c.bring_first.ensures.none c.bring_first.ensures.empty
