-- The span of the id's origin is there, has room, and gains the number.
use Rattle.std.proofs.Common.{◌≡◌, ◌∙◌, ◌||◌, List, Some, false, ap, sym, subst, refl}
use Rattle.std.specs.Prelude.{nat_eq, IsSomeAnd}
use Rattle.std.specs.FinSet as set
use Rattle.std.specs.Map.{lookup}
use Rattle.std.specs.Option.{IsSome, option_copied_mut, option_map_or}
use Rattle.node_names.specs.Same.{same_origin}
use Rattle.node_names.specs.declared.ids.Origin.{Origin}
use Rattle.node_names.specs.declared.ids.MsgId.{MsgId}
use Rattle.known_messages.specs.Known.{HasRoom, ids}
use Rattle.known_messages.specs.Span.{HasRoomFor, Span, has_number}
use Rattle.known_messages.proofs.KnownLemmas.{ids-more}
use Rattle.known_messages.proofs.known_ids.KnownIds.insert.Goals as goal

pub insert-requires : goal.insert-requires
insert-requires g c =
    let room : HasRoom c.self.inside.spans.entries c.args.id.now =
    subst (λ (known : List (Origin × Span)). HasRoom known c.args.id.now) (sym c.self.view_is) c.requires in
    subst (λ o. IsSomeAnd o (λ span. HasRoomFor span c.args.id.now.seq)) (sym (sym (ap option_copied_mut c.unwrap-span.ensures) ∙ c.get_mut.ensures.value)) room

pub returns : goal.returns
returns g c =
    let known = c.self.inside.spans.entries in
    let id : MsgId = c.args.id.now in
    let had : Some c.unwrap-span.result.now ≡ lookup (same_origin id.origin) known =
    sym (ap option_copied_mut c.unwrap-span.ensures) ∙ c.get_mut.ensures.value in
    let updates = c.get_mut.follows.holds c.insert.new.self in
    ids-more known (c.get_mut.follows.lender c.insert.new.self).entries id.origin c.insert.new.self c.self.invariant updates.4
    (updates.3 (subst IsSome had refl)).0 id.seq
    (λ m. c.insert.ensures m ∙ ap (λ o. nat_eq m id.seq || option_map_or (λ s. has_number s m) o false) had)
    ∙ ap (λ (k : List (Origin × Span)). set.insert (ids k) id) c.self.view_is
