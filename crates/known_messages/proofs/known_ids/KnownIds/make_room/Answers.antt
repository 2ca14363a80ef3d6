-- The span has the numbers that it had.
use Rattle.std.proofs.Common.{◌≡◌, ◌∙◌, List, Some, false, ap, sym, subst, refl}
use Rattle.std.specs.Map.{lookup}
use Rattle.std.specs.Option.{IsSome, option_copied_mut, option_map_or}
use Rattle.node_names.specs.Same.{same_origin}
use Rattle.node_names.specs.declared.ids.Origin.{Origin}
use Rattle.known_messages.specs.Known.{ids}
use Rattle.known_messages.specs.Span.{Span, has_number}
use Rattle.known_messages.proofs.KnownLemmas.{ids-same}
use Rattle.known_messages.proofs.known_ids.KnownIds.make_room.Goals as goal

pub returns-in-Some-clause-same : goal.returns-in-Some-clause-same
returns-in-Some-clause-same g c =
    let known = c.self.inside.spans.entries in
    let origin : Origin = c.args.id.now.origin in
    let had : Some c.in-Some.span.now ≡ lookup (same_origin origin) known = sym (ap option_copied_mut c.in-Some.is) ∙ c.get_mut.ensures.value in
    let updates = c.get_mut.follows.holds c.make_room.new.self in
    ids-same known
    (c.get_mut.follows.lender c.make_room.new.self).entries
    origin c.make_room.new.self c.self.invariant updates.4
    (updates.3 (subst IsSome had refl)).0
    (λ n. ap (λ (s : Span). has_number s n) c.make_room.ensures.same ∙ ap (λ o. option_map_or (λ s. has_number s n) o false) had)
    ∙ ap (λ (k : List (Origin × Span)). ids k) c.self.view_is
