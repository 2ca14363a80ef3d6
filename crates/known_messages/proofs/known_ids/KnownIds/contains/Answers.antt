-- The id is known if the span of its origin has its number.
use Rattle.std.proofs.Common.{◌≡◌, ◌∙◌, List, None, Some, false, ap, sym}
use Rattle.std.specs.FinSet as set
use Rattle.std.specs.Map.{lookup}
use Rattle.std.specs.Option.{option_copied, option_map_or}
use Rattle.node_names.specs.Same.{same_origin}
use Rattle.node_names.specs.declared.ids.Origin.{Origin}
use Rattle.known_messages.specs.Known.{ids}
use Rattle.known_messages.specs.Span.{Span, has_number}
use Rattle.known_messages.proofs.KnownLemmas.{contains-ids}
use Rattle.known_messages.proofs.known_ids.KnownIds.contains.Goals as goal

pub returns-in-Some : goal.returns-in-Some
returns-in-Some g c =
    let had : Some c.in-Some.span.now ≡ lookup (same_origin c.args.id.now.origin) c.self.inside.spans.entries =
    sym (ap option_copied c.in-Some.is) ∙ c.get.ensures.value in
    c.contains.ensures
    ∙ ap (λ o. option_map_or (λ span. has_number span c.args.id.now.seq) o false) had
    ∙ sym (contains-ids c.self.inside.spans.entries c.self.invariant c.args.id.now)
    ∙ ap (λ (known : List (Origin × Span)). set.contains (ids known) c.args.id.now) c.self.view_is

pub returns-in-None : goal.returns-in-None
returns-in-None g c =
    let had : None ≡ lookup (same_origin c.args.id.now.origin) c.self.inside.spans.entries = sym (ap option_copied c.in-None.is) ∙ c.get.ensures.value in
    ap (λ o. option_map_or (λ (span : Span). has_number span c.args.id.now.seq) o false) had
    ∙ sym (contains-ids c.self.inside.spans.entries c.self.invariant c.args.id.now)
    ∙ ap (λ (known : List (Origin × Span)). set.contains (ids known) c.args.id.now) c.self.view_is
