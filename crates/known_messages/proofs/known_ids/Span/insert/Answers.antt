-- What is counted gains the number, or has it.
use Rattle.std.proofs.Common.{◌≡◌, ◌∙◌, ◌+◌, ◌≤◌, ◌||◌, ap, subst, arith}
use Rattle.std.specs.Prelude.{nat_eq}
use Rattle.known_messages.specs.Span.{Span, has_number}
use Rattle.known_messages.proofs.SpanLemmas.{extended, has-more, has_unbroken, known_again}
use Rattle.known_messages.proofs.known_ids.Span.insert.Goals as goal

pub returns-then-n-self : goal.returns-then-n-self
returns-then-n-self g c =
    known_again c.args.self.now c.args.n
    (has_unbroken c.args.self.now c.args.n (omega (arith, c.if-n-eq0.false)) (subst (λ (s : Span). c.args.n ≤ s.unbroken) c.self.view_is c.if-n-self.true))

pub returns-then-n-self-2 : goal.returns-then-n-self-2
returns-then-n-self-2 g c = λ m.
    let now = c.self.inside in
    let next : c.args.n ≡ now.unbroken + 1 = omega (arith, c.if-n-self-2.true, c.if-n-eq0.false) in
    has-more now.zero now.unbroken c.absorb-self-inside.result now.past.numbers
    c.absorb-self-inside.new.self.numbers now.past.room c.absorb-self-inside.new.self.room c.args.n
    (extended now.unbroken c.absorb-self-inside.result c.args.n now.past.numbers c.absorb-self-inside.new.self.numbers next c.absorb-self-inside.ensures.same) m
    ∙ ap (λ (s : Span). nat_eq m c.args.n || has_number s m) c.self.view_is
