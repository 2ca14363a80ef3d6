-- A span without numbers adds no id.
use Rattle.std.proofs.Common.{◌≡◌, ◌∙◌, List, None, false, ap, sym}
use Rattle.std.specs.Map.{lookup}
use Rattle.std.specs.Option.{option_map_or}
use Rattle.node_names.specs.Same.{same_origin}
use Rattle.node_names.specs.declared.ids.Origin.{Origin}
use Rattle.known_messages.specs.Known.{ids}
use Rattle.known_messages.specs.Span.{Span, has_number}
use Rattle.known_messages.proofs.KnownLemmas.{ids-same}
use Rattle.known_messages.proofs.SpanLemmas.{has-none}
use Rattle.known_messages.proofs.known_ids.KnownIds.add_span.Goals as goal

pub returns-clause-same : goal.returns-clause-same
returns-clause-same g c =
    let known = c.self.inside.spans.entries in
    let origin : Origin = c.args.id.now.origin in
    let none : lookup (same_origin origin) known ≡ None = ap (λ (k : List (Origin × Span)). lookup (same_origin origin) k) c.self.view_is ∙ c.requires in
    ids-same known c.insert.new.self.entries origin c.make_room.new.self c.self.invariant c.insert.ensures.unique c.in_ok-insert.ensures.updates.0
    (λ n. ap (λ (s : Span). has_number s n) c.make_room.ensures.same
    ∙ has-none c.new-span.result c.make_room.new.self.room n c.new-span.ensures.zero c.new-span.ensures.unbroken c.new-span.ensures.past
    ∙ sym (ap (λ o. option_map_or (λ (s : Span). has_number s n) o false) none))
    ∙ ap (λ (k : List (Origin × Span)). ids k) c.self.view_is
