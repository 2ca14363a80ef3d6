-- What was counted and what is left are all numbers, and no more than 64 bits hold.
use Rattle.std.proofs.Common.{◌≡◌, ◌∙◌, ◌^◌, ◌<◌, List, ℕ, ◌∷◌, length, ap, sym, refl, arith}
use Rattle.known_messages.specs.Past.{Past, between}
use Rattle.known_messages.specs.Span.{Ascends}
use Rattle.known_messages.proofs.PastLemmas.{length-between, length-last, length-run}
use Rattle.known_messages.proofs.past.Past.count.Goals as goal

fits : (view : Past) (edges : List ℕ) → view.numbers ≡ between (2 ^ 64) edges → Ascends 0 edges → length view.numbers < 2 ^ 64
fits view edges is up = let less = length-between (2 ^ 64) refl 0 edges (omega arith) up in omega (arith, ap length is, less)

pub overflow_add-result : goal.overflow_add-result
overflow_add-result g c =
    let most = fits c.args.self.now c.self.inside.edges.items (sym (ap (λ (p : Past). p.numbers) c.self.view_is)) c.self.invariant in
    let last = length-last (2 ^ 64) refl _ _ c.in-Some.first.now c.in-Some.ensures.steps c.in_default-next.ensures.steps.0 c.loop-first.invariant.up in
    omega (arith, most, last, c.loop-first.invariant.sum)

pub overflow_add-result-in_default-next : goal.overflow_add-result-in_default-next
overflow_add-result-in_default-next g c =
    let most = fits c.args.self.now c.self.inside.edges.items (sym (ap (λ (p : Past). p.numbers) c.self.view_is)) c.self.invariant in
    let last = length-last (2 ^ 64) refl _ _ c.in-Some.first.now c.in-Some.ensures.steps c.in_default-next.ensures.steps.0 c.loop-first.invariant.up in
    omega (arith, most, last, c.loop-first.invariant.sum)

pub returns-in_default-next : goal.returns-in_default-next
returns-in_default-next g c =
    let last = length-last (2 ^ 64) refl _ _ c.in-Some.first.now c.in-Some.ensures.steps c.in_default-next.ensures.steps.0 c.loop-first.invariant.up in
    omega (arith, last, c.loop-first.invariant.sum)

pub overflow_add-count : goal.overflow_add-count
overflow_add-count g c =
    let most = fits c.args.self.now c.self.inside.edges.items (sym (ap (λ (p : Past). p.numbers) c.self.view_is)) c.self.invariant in
    let run =
    length-run (2 ^ 64) refl _ _ c.in-Some.first.now c.in-Some-next.end.now
    (c.in-Some.ensures.steps ∙ ap (λ es. c.in-Some.first.now ∷ es) c.in-Some-next.ensures.steps) c.loop-first.invariant.up in
    omega (arith, most, run.1, c.loop-first.invariant.sum)

pub loop-first-preserved : goal.loop-first-preserved
loop-first-preserved g c =
    let run =
    length-run (2 ^ 64) refl _ _ c.in-Some.first.now c.in-Some-next.end.now
    (c.in-Some.ensures.steps ∙ ap (λ es. c.in-Some.first.now ∷ es) c.in-Some-next.ensures.steps) c.loop-first.invariant.up in
    record { can_next = tt; is_finite = tt; up = run.0; sum = omega (arith, run.1, c.loop-first.invariant.sum) }
