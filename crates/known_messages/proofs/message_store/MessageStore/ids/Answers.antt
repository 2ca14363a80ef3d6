-- The slice is all that stands behind the front.
use Rattle.std.proofs.Common.{◌≡◌, ◌∙◌, ◌-◌, ℕ, List, length, take, drop, ap, sym, subst}
use Rattle.std.proofs.lemmas.List.{drop-map, take_rest}
use Rattle.std.specs.List.{IsDistinct}
use Rattle.std.specs.Map.{keys_of}
use Rattle.node_names.specs.Same.{same_id}
use Rattle.node_names.specs.declared.ids.MsgId.{MsgId}
use Rattle.known_messages.specs.Held.{Held}
use Rattle.known_messages.proofs.FrontLemmas.{distinct-drop}
use Rattle.known_messages.proofs.message_store.MessageStore.ids.Goals as goal

pub returns-clause-ids : goal.returns-clause-ids
returns-clause-ids g c =
    let now = c.self.inside in
    take_rest c.as_slice.result.now now.gone
    ∙ ap (drop now.gone) (c.as_slice.ensures ∙ c.keys.ensures.rest)
    ∙ drop-map (λ (e : MsgId × List ℕ). e.0) now.gone now.messages.entries
    ∙ ap (λ (held : Held). keys_of held.messages) c.self.view_is

pub returns-clause-distinct : goal.returns-clause-distinct
returns-clause-distinct g c =
    let now = c.self.inside in
    let all : List MsgId = c.as_slice.result.now in
    let behind : take (length all - now.gone) (drop now.gone all) ≡ drop now.gone (keys_of now.messages.entries) =
    take_rest all now.gone ∙ ap (drop now.gone) (c.as_slice.ensures ∙ c.keys.ensures.rest) in
    subst (IsDistinct same_id) (sym behind) (distinct-drop same_id now.gone (keys_of now.messages.entries) c.self.invariant.0)
