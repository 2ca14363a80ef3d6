-- The run that follows joins the unbroken numbers.
use Rattle.std.proofs.Common.{◌∙◌, ◌+◌, ◌-◌, ◌^◌, ◌<◌, ℕ, ◌++◌, Option, length, ap, sym, subst, refl, arith}
use Rattle.std.specs.Option.{option_to_list}
use Rattle.known_messages.specs.Past.{Past, between}
use Rattle.known_messages.specs.Span.{Ascends, counted}
use Rattle.known_messages.proofs.PastLemmas.{absorbed, absorbed_all, apart_from, nil_of}
use Rattle.known_messages.proofs.past.Past.absorb.Goals as goal
use Rattle.known_messages.proofs.past.Past.absorb.Goals.{in-Some-pop_front, in-None}

pub returns-then-first-last-clause-apart : goal.returns-then-first-last-clause-apart
returns-then-first-last-clause-apart g c =
    subst (λ (p : Past). Ascends (c.args.last + 1) p.numbers) c.self.view_is
    (apart_from (2 ^ 64) refl c.args.last c.in-Some.first.now c.self.inside.edges.items
    (omega (arith, c.in-Some.ensures.variant.0 refl, c.self.inside.edges.ok.0))
    c.in-Some.ensures.lookup c.self.invariant
    (subst (λ (p : Past). Ascends c.args.last p.numbers) (sym c.self.view_is) c.requires)
    c.if-first-last.true)

pub returns-clause-apart : goal.returns-clause-apart
returns-clause-apart g c =
    let edges = c.self.inside.edges.items in
    let some : 0 < length edges = omega (arith, c.in-Some.ensures.variant.0 refl, c.self.inside.edges.ok.0) in
    let apart : Ascends c.args.last (between (2 ^ 64) edges) = subst (λ (p : Past). Ascends c.args.last p.numbers) (sym c.self.view_is) c.requires in
    elim c.match-pop_front.branch [
      | in-Some-pop_front w ↦
          (let left = sym c.pop_front.ensures.rest
          ∙ c.pop_front-2.ensures.items
          ∙ ap (λ (r : Option ℕ). option_to_list r ++ c.pop_front-2.new.self.items) w.in-Some-pop_front.is in
          subst (λ r. Ascends (r + 1) (between (2 ^ 64) c.pop_front-2.new.self.items)) (sym w.result-is) (absorbed (2 ^ 64) refl c.args.last c.in-Some.first.now
          edges c.pop_front-2.new.self.items w.in-Some-pop_front.end some c.in-Some.ensures.lookup c.if-first-last.false c.self.invariant apart left).0)
      | in-None w ↦
          (let none = nil_of c.pop_front-2.new.self.items (omega (arith, w.in-None.ensures.cases.1, c.pop_front-2.new.self.ok.0)) in
          subst (λ es. Ascends (c.match-pop_front.result + 1) (between (2 ^ 64) es)) (sym none) tt)
    ]

pub returns-clause-same : goal.returns-clause-same
returns-clause-same g c =
    let edges = c.self.inside.edges.items in
    let some : 0 < length edges = omega (arith, c.in-Some.ensures.variant.0 refl, c.self.inside.edges.ok.0) in
    let apart : Ascends c.args.last (between (2 ^ 64) edges) = subst (λ (p : Past). Ascends c.args.last p.numbers) (sym c.self.view_is) c.requires in
    elim c.match-pop_front.branch [
      | in-Some-pop_front w ↦
          (let left = sym c.pop_front.ensures.rest
          ∙ c.pop_front-2.ensures.items
          ∙ ap (λ (r : Option ℕ). option_to_list r ++ c.pop_front-2.new.self.items) w.in-Some-pop_front.is in
          ap (λ (r : ℕ). counted r (between (2 ^ 64) c.pop_front-2.new.self.items)) w.result-is
          ∙ (absorbed (2 ^ 64) refl c.args.last c.in-Some.first.now edges c.pop_front-2.new.self.items
          w.in-Some-pop_front.end some c.in-Some.ensures.lookup c.if-first-last.false c.self.invariant apart left).1
          ∙ ap (λ (p : Past). counted c.args.last p.numbers) c.self.view_is)
      | in-None w ↦
          (let none = nil_of c.pop_front-2.new.self.items (omega (arith, w.in-None.ensures.cases.1, c.pop_front-2.new.self.ok.0)) in
          let left = sym c.pop_front.ensures.rest ∙ w.in-None.ensures.items ∙ none in
          ap (λ (r : ℕ). counted r (between (2 ^ 64) c.pop_front-2.new.self.items)) w.result-is
          ∙ ap (λ es. counted (2 ^ 64 - 1) (between (2 ^ 64) es)) none
          ∙ absorbed_all (2 ^ 64) refl c.args.last c.in-Some.first.now edges some c.in-Some.ensures.lookup c.if-first-last.false c.self.invariant apart left
          ∙ ap (λ (p : Past). counted c.args.last p.numbers) c.self.view_is)
    ]
