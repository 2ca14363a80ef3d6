-- Texts of messages, to which more is appended.
use Rattle.std.proofs.Common.{◌≡◌, ◌∙◌, ℕ, List, [], ◌++◌, true, false, ap, refl, sym, append-nil, if◌then◌else◌}
use Rattle.std.specs.Map.{lookup}
use Rattle.std.specs.Prelude.{Bool, Some, cond, unwrap_or}
use Rattle.std.proofs.lemmas.Bool.{false≢true}
use Rattle.node_names.specs.Same.{same_id, same_id-Decides}
use Rattle.node_names.specs.declared.ids.MsgId.{MsgId}
use Rattle.trace_text.specs.Collected.{text_at}
use Rattle.trace_text.proofs.Countings.{fails}

-- where a message has more than it had and each other message what it had, the text of that message was appended to
pub appended : (old new : List (MsgId × List ℕ)) (id : MsgId) (text more : List ℕ) →
    text ≡ text_at id old ++ more →
    ((q : MsgId) → lookup (same_id q) new ≡ cond (same_id id q) (Some text) (lookup (same_id q) old)) →
    (q : MsgId) →
    text_at q new ≡ text_at q old ++ (if same_id q id then more else [])
appended old new id text more is updates q = ap (λ o. unwrap_or o []) (updates q) ∙ go (same_id id q) refl
  where
    go : (b : Bool) → same_id id q ≡ b → unwrap_or (cond b (Some text) (lookup (same_id q) old)) [] ≡ text_at q old ++ (if same_id q id then more else [])
    go true e =
        let one : id ≡ q = (same_id-Decides id q).0 e in
        let same : same_id q id ≡ true = (same_id-Decides q id).1 (sym one) in
        is ∙ ap (λ i. text_at i old ++ more) one ∙ ap (λ (b : Bool). text_at q old ++ (if b then more else [])) (sym same)
    go false e =
        let other : same_id q id ≡ false = fails (same_id q id) (λ same. false≢true (sym e ∙ (same_id-Decides id q).1 (sym ((same_id-Decides q id).0 same)))) in
        sym (append-nil (text_at q old)) ∙ ap (λ (b : Bool). text_at q old ++ (if b then more else [])) (sym other)
