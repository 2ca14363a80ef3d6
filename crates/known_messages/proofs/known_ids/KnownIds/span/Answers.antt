-- The span of the origin, or none, says what is known of it.
use Rattle.std.proofs.Common.{◌≡◌, ◌∙◌, ℕ, List, [], None, Some, false, ap, sym, subst, arith}
use Rattle.std.specs.FinSet as set
use Rattle.std.specs.Map.{lookup}
use Rattle.std.specs.Option.{option_copied, option_map_or}
use Rattle.node_names.specs.Same.{same_origin}
use Rattle.node_names.specs.declared.ids.Origin.{Origin}
use Rattle.known_messages.specs.Known.{ids, IsSpan}
use Rattle.known_messages.specs.Span.{Span, has_number}
use Rattle.known_messages.proofs.CountLemmas.{is_span}
use Rattle.known_messages.proofs.KnownLemmas.{contains-ids}
use Rattle.known_messages.proofs.SpanLemmas.{has-past, has_unbroken}
use Rattle.known_messages.proofs.known_ids.KnownIds.span.Goals as goal

pub returns-in-Some-clause-span : goal.returns-in-Some-clause-span
returns-in-Some-clause-span g c =
    let known = c.self.inside.spans.entries in
    let origin : Origin = c.args.origin.now in
    let span : Span = c.in-Some.span.now in
    let had : Some span ≡ lookup (same_origin origin) known = sym (ap option_copied c.in-Some.is) ∙ c.get.ensures.value in
    let has : (n : ℕ) → set.contains (ids known) (record { origin = origin; seq = n }) ≡ has_number span n =
    λ n. contains-ids known c.self.invariant (record { origin = origin; seq = n }) ∙ ap (λ o. option_map_or (λ s. has_number s n) o false) (sym had) in
    let all : IsSpan (ids known) origin span.unbroken _ =
    is_span (ids known) origin span.unbroken span.past (λ n from to. has n ∙ has_unbroken span n (omega (arith, from)) to)
    (λ n beyond. has n ∙ has-past span n beyond) c.counts.ensures.order in
    rw (c.counts.ensures.unbroken, c.counts.ensures.past, ← c.self.view_is) all

pub returns-in-None-clause-span : goal.returns-in-None-clause-span
returns-in-None-clause-span g c =
    let known = c.self.inside.spans.entries in
    let origin : Origin = c.args.origin.now in
    let had : None ≡ lookup (same_origin origin) known = sym (ap option_copied c.in-None.is) ∙ c.get.ensures.value in
    let lacks : (n : ℕ) → set.contains (ids known) (record { origin = origin; seq = n }) ≡ false =
    λ n. contains-ids known c.self.invariant (record { origin = origin; seq = n }) ∙ ap (λ o. option_map_or (λ (s : Span). has_number s n) o false) (sym had) in
    let none : IsSpan (ids known) origin 0 0 = is_span (ids known) origin 0 [] (λ n from to. absurd (omega (arith, from, to))) (λ n beyond. lacks n) tt in
    subst (λ (k : List (Origin × Span)). IsSpan (ids k) origin 0 0) c.self.view_is none
