use Rattle.std.proofs.Common.{Some, sym, ap, ◌∙◌}
use Rattle.missing.specs.Slots.{earlier}
use Rattle.missing.proofs.SlotWants.{lower-lt, lower-le}
use Rattle.missing.proofs.wants.earlier.Goals as goal

pub returns-then-m-n : goal.returns-then-m-n
returns-then-m-n c = ap Some (lower-lt c.in-Some-Some.m c.in-Some-Some.n c.if-m-n.true) ∙ (λ i. earlier (sym c.in-Some-Some.is-0 i) (sym c.in-Some-Some.is-1 i))

pub returns-else-m-n : goal.returns-else-m-n
returns-else-m-n c =
    ap Some (lower-le c.in-Some-Some.m c.in-Some-Some.n c.if-m-n.false) ∙ (λ i. earlier (sym c.in-Some-Some.is-0 i) (sym c.in-Some-Some.is-1 i))
