-- The spans of the copy have the numbers that they had.
use Rattle.std.proofs.Common.{◌∙◌, List, ap, sym, subst}
use Rattle.std.specs.List.{IsDistinct}
use Rattle.node_names.specs.Same.{same_origin}
use Rattle.node_names.specs.declared.ids.Origin.{Origin}
use Rattle.known_messages.specs.Known.{ids}
use Rattle.known_messages.specs.Span.{Span}
use Rattle.known_messages.proofs.KnownLemmas.{ids-copied, keys-copied}
use Rattle.known_messages.proofs.known_ids.KnownIds.copy.Goals as goal

pub invariant_of-result : goal.invariant_of-result
invariant_of-result g c =
    subst (IsDistinct same_origin) (sym (keys-copied c.self.inside.spans.entries c.in_ok-clone.field-0.entries c.in_ok-clone.ensures.cases)) c.self.invariant

pub returns : goal.returns
returns g c =
    ids-copied c.self.inside.spans.entries c.in_ok-clone.field-0.entries c.in_ok-clone.ensures.cases
    ∙ ap (λ (known : List (Origin × Span)). ids known) c.self.view_is
