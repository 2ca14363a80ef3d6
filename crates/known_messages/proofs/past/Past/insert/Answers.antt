-- The two edges that are toggled cover one number more.
use Rattle.std.proofs.Common.{◌≡◌, ◌∙◌, ◌+◌, ◌^◌, ◌||◌, List, ℕ, false, ap, sym, subst, refl, arith}
use Rattle.std.specs.Prelude.{nat_eq, nat_le}
use Rattle.std.specs.List.{list_any}
use Rattle.known_messages.specs.Past.{Past, between, is_covered, toggled}
use Rattle.known_messages.specs.Span.{Ascends}
use Rattle.known_messages.proofs.PastLemmas.{any-between, Ascends-between, Ascends-edges, covered_last, covered_pair, more-between}
use Rattle.known_messages.proofs.past.Past.insert.Goals as goal

-- the old edges are below `low` if their numbers are
edges : (old now : List ℕ) (view : Past) (low n : ℕ) →
    view.numbers ≡ between (2 ^ 64) old →
    Ascends 0 old →
    (Ascends low old → Ascends low now) →
    Ascends low view.numbers →
    Ascends low now
edges old now view low n is up keeps apart = keeps (Ascends-edges (2 ^ 64) refl low old up (subst (Ascends low) is apart))

pub returns-then-n-lt18446744073709551615-clause-order : goal.returns-then-n-lt18446744073709551615-clause-order
returns-then-n-lt18446744073709551615-clause-order g c =
    λ low lower up. Ascends-between (2 ^ 64) refl low c.toggle-then-n-lt18446744073709551615.new.edges.items
    (c.toggle-then-n-lt18446744073709551615.ensures.order low (omega (arith, lower)) (edges c.self.inside.edges.items c.toggle.new.edges.items
    c.args.self.now low c.args.n (sym (ap (λ (p : Past). p.numbers) c.self.view_is)) c.self.invariant (c.toggle.ensures.order low lower) up))

pub returns-then-n-lt18446744073709551615-clause-numbers : goal.returns-then-n-lt18446744073709551615-clause-numbers
returns-then-n-lt18446744073709551615-clause-numbers g c = λ m.
    let old = c.self.inside.edges.items in
    let lacks : is_covered c.self.inside.edges.items c.args.n ≡ false =
    sym (any-between (2 ^ 64) refl 0 c.args.n c.self.inside.edges.items c.ranges.n.fits c.self.invariant)
    ∙ ap (λ (p : Past). list_any (nat_eq c.args.n) p.numbers) c.self.view_is
    ∙ sym c.contains.ensures
    ∙ c.if-contains.false in
    let now = c.toggle-then-n-lt18446744073709551615.new.edges.items in
    let up_now : Ascends 0 now =
    c.toggle-then-n-lt18446744073709551615.ensures.order 0 (omega arith) (c.toggle.ensures.order 0 c.requires.positive c.self.invariant) in
    more-between (2 ^ 64) refl old now c.args.n c.ranges.n.fits c.self.invariant up_now
    (λ k fits. c.toggle-then-n-lt18446744073709551615.ensures.covered k
    ∙ ap (toggled (nat_le (c.args.n + 1) k)) (c.toggle.ensures.covered k)
    ∙ covered_pair old c.args.n k lacks)
    m
    ∙ ap (λ (p : Past). nat_eq m c.args.n || list_any (nat_eq m) p.numbers) c.self.view_is

pub returns-else-n-lt18446744073709551615-clause-order : goal.returns-else-n-lt18446744073709551615-clause-order
returns-else-n-lt18446744073709551615-clause-order g c =
    λ low lower up. Ascends-between (2 ^ 64) refl low c.toggle.new.edges.items
    (edges c.self.inside.edges.items c.toggle.new.edges.items c.args.self.now low c.args.n
    (sym (ap (λ (p : Past). p.numbers) c.self.view_is)) c.self.invariant (c.toggle.ensures.order low lower) up)

pub returns-else-n-lt18446744073709551615-clause-numbers : goal.returns-else-n-lt18446744073709551615-clause-numbers
returns-else-n-lt18446744073709551615-clause-numbers g c = λ m.
    let old = c.self.inside.edges.items in
    let lacks : is_covered c.self.inside.edges.items c.args.n ≡ false =
    sym (any-between (2 ^ 64) refl 0 c.args.n c.self.inside.edges.items c.ranges.n.fits c.self.invariant)
    ∙ ap (λ (p : Past). list_any (nat_eq c.args.n) p.numbers) c.self.view_is
    ∙ sym c.contains.ensures
    ∙ c.if-contains.false in
    let now = c.toggle.new.edges.items in
    more-between (2 ^ 64) refl old now c.args.n c.ranges.n.fits c.self.invariant (c.toggle.ensures.order 0 c.requires.positive c.self.invariant)
    (λ k fits. c.toggle.ensures.covered k ∙ covered_last old c.args.n k (omega (arith, fits, c.if-n-lt18446744073709551615.false)) lacks) m
    ∙ ap (λ (p : Past). nat_eq m c.args.n || list_any (nat_eq m) p.numbers) c.self.view_is
