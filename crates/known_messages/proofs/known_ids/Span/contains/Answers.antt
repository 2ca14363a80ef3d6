-- 0 is marked, the unbroken numbers are counted, and the others stand past the gap.
use Rattle.std.proofs.Common.{◌∙◌, ◌+◌, ◌<◌, ◌≤◌, ap, sym, subst, arith}
use Rattle.std.specs.Prelude.{nat_eq}
use Rattle.std.specs.List.{list_any}
use Rattle.std.proofs.lemmas.Bool.{le-leb}
use Rattle.known_messages.specs.Span.{Span, Ascends, has_number}
use Rattle.known_messages.proofs.SpanLemmas.{has-past, has-zero, has_unbroken}
use Rattle.known_messages.proofs.known_ids.Span.contains.Goals as goal

pub returns-then-n-eq0 : goal.returns-then-n-eq0
returns-then-n-eq0 g c =
    ap (λ (s : Span). s.zero) c.self.view_is
    ∙ sym (has-zero c.args.self.now (subst (λ (s : Span). Ascends (s.unbroken + 1) s.past) c.self.view_is c.self.invariant))
    ∙ ap (has_number c.args.self.now) (sym c.if-n-eq0.true)

pub returns-then-n-self : goal.returns-then-n-self
returns-then-n-self g c =
    le-leb c.args.n c.self.inside.unbroken c.if-n-self.true
    ∙ sym
    (has_unbroken c.args.self.now c.args.n (omega (arith, c.if-n-eq0.false)) (subst (λ (s : Span). c.args.n ≤ s.unbroken) c.self.view_is c.if-n-self.true))

pub returns-else-n-self : goal.returns-else-n-self
returns-else-n-self g c =
    c.contains.ensures
    ∙ ap (λ (s : Span). list_any (nat_eq c.args.n) s.past) c.self.view_is
    ∙ sym (has-past c.args.self.now c.args.n (subst (λ (s : Span). s.unbroken < c.args.n) c.self.view_is c.if-n-self.false))
