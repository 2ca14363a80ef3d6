-- What is told of messages, of one message more.
use Rattle.std.proofs.Common.{◌≡◌, ◌<◌, ◌+◌, ℕ, List, [], ◌∷◌, ◌++◌, length, take, get_or, refl, sym, ◌∙◌, ap, subst, append_assoc, append-nil}
use Rattle.std.proofs.lemmas.List.{take_more}
use Rattle.node_names.specs.declared.ids.MsgId.{MsgId}
use Rattle.world.specs.declared.packet.Packet.{Packet}
use Rattle.frames.specs.Frame.{Frame}
use Rattle.trace_text.specs.Counts.{TellsSpread, TellsSpreads}

TellsSpreads-push : (sent : List (Packet Frame)) (ids : List MsgId) (id : MsgId) (text more : List ℕ) →
    TellsSpreads sent ids text →
    TellsSpread sent id more →
    TellsSpreads sent (ids ++ id ∷ []) (text ++ more)
TellsSpreads-push sent [] id text more told one = (more, [], one, refl, ap (λ (t : List ℕ). t ++ more) told ∙ sym (append-nil more))
TellsSpreads-push sent (e ∷ ids) id text more (first, rest, head, tail, is) one =
    (first, rest ++ more, head, TellsSpreads-push sent ids id rest more tail one, ap (λ (t : List ℕ). t ++ more) is ∙ append_assoc first rest more)

-- the messages up to the next one
pub TellsSpreads-more : (sent : List (Packet Frame)) (ids : List MsgId) (k : ℕ) (id : MsgId) (text more : List ℕ) →
    k < length ids →
    id ≡ get_or ids k id →
    TellsSpreads sent (take k ids) text →
    TellsSpread sent id more →
    TellsSpreads sent (take (k + 1) ids) (text ++ more)
TellsSpreads-more sent ids k id text more within here told one =
    let P : List MsgId → Type 0 = λ some. TellsSpreads sent some (text ++ more) in
    let same : take (k + 1) ids ≡ take k ids ++ id ∷ [] = take_more ids k id within ∙ ap (λ (i : MsgId). take k ids ++ i ∷ []) (sym here) in
    subst P (sym same) (TellsSpreads-push sent (take k ids) id text more told one)
