-- A look-up finds what stands behind the front, and not what stands in it.
use Rattle.std.proofs.Common.{◌∙◌, ap}
use Rattle.std.specs.Map.{lookup}
use Rattle.std.specs.Option.{option_copied}
use Rattle.node_names.specs.Same.{same_id}
use Rattle.known_messages.specs.Held.{Held}
use Rattle.known_messages.proofs.FrontLemmas.{lookup-drop-none, is_forgotten, is_held}
use Rattle.known_messages.proofs.message_store.MessageStore.payload.Goals as goal

pub returns-in_err-place : goal.returns-in_err-place
returns-in_err-place g c =
    let now = c.self.inside in
    ap option_copied c.from_residual.ensures
    ∙ lookup-drop-none (same_id c.args.id.now) now.gone now.messages.entries c.in_err-place.ensures.value
    ∙ ap (λ (held : Held). lookup (same_id c.args.id.now) held.messages) c.self.view_is

pub returns-then-place-self : goal.returns-then-place-self
returns-then-place-self g c =
    let now = c.self.inside in
    let found = c.in_ok-place in
    is_forgotten now.messages.entries now.gone found.place c.args.id.now found.field-0-1.now
    found.payload.now c.self.invariant.0 found.ensures.key found.ensures.entry c.if-place-self.true
    ∙ ap (λ (held : Held). lookup (same_id c.args.id.now) held.messages) c.self.view_is

pub returns-else-place-self : goal.returns-else-place-self
returns-else-place-self g c =
    let now = c.self.inside in
    let found = c.in_ok-place in
    is_held now.messages.entries now.gone found.place c.args.id.now found.field-0-1.now
    found.payload.now c.self.invariant.0 found.ensures.key found.ensures.entry c.if-place-self.false
    ∙ ap (λ (held : Held). lookup (same_id c.args.id.now) held.messages) c.self.view_is
