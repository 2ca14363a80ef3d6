-- The message goes last, behind the same front.
use Rattle.std.proofs.Common.{◌≡◌, ◌∙◌, ◌≤◌, ◌++◌, ◌∷◌, [], ℕ, List, length, drop, ap, arith}
use Rattle.std.proofs.lemmas.List.{drop-append-le}
use Rattle.indexmap.specs.IndexMap.{insert_entry}
use Rattle.indexmap.proofs.CallerLemmas.{insert_entry-new}
use Rattle.node_names.specs.Same.{same_id}
use Rattle.node_names.specs.declared.ids.MsgId.{MsgId}
use Rattle.known_messages.specs.Held.{Held, kept_last}
use Rattle.known_messages.proofs.message_store.MessageStore.push.Goals as goal

pub returns : goal.returns
returns g c =
    let id : MsgId = c.args.id.now in
    let payload : List ℕ = c.args.payload in
    let free = c.free_place-self-inside in
    let put : c.insert.new.self.entries ≡ insert_entry same_id free.new.messages.entries id payload = rw c.unwrap.ensures at c.insert.ensures.entries in
    let within : free.result ≤ length free.new.messages.entries = omega (arith, free.ensures.front) in
    let last : drop free.result c.insert.new.self.entries ≡ drop c.self.inside.gone c.self.inside.messages.entries ++ (id, payload) ∷ [] =
    ap (drop free.result) (put ∙ insert_entry-new same_id free.new.messages id payload free.ensures.absent)
    ∙ drop-append-le free.result free.new.messages.entries ((id, payload) ∷ []) within
    ∙ ap (λ held. held ++ (id, payload) ∷ []) free.ensures.messages in
    c.forget.ensures
    ∙ ap (kept_last c.args.keep) (last ∙ ap (λ (held : Held). held.messages ++ (id, payload) ∷ []) c.self.view_is)
