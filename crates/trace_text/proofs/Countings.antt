-- Counts, one item further.
use Rattle.std.proofs.Common.{◌≡◌, ◌∙◌, ◌+◌, ◌<◌, ◌≤◌, ℕ, List, [], ◌∷◌, ◌++◌, get_or, length, take, true, false, ap, refl, sym, arith}
use Rattle.std.specs.Map.{lookup}
use Rattle.std.specs.Prelude.{Bool, Some, cond, sum_by, unwrap_or}
use Rattle.std.proofs.lemmas.Bool.{false≢true}
use Rattle.std.proofs.lemmas.List.{take_more}
use Rattle.std.proofs.lemmas.List.Sums.{sum_by-append}
use Rattle.node_names.specs.Same.{same_id, same_id-Decides}
use Rattle.node_names.specs.declared.ids.MsgId.{MsgId}
use Rattle.trace_text.specs.Counts.{count_at}

-- a sum to which the next item's share is added
pub sum-more : {X : Type 0} (f : X → ℕ) (xs : List X) (i : ℕ) (x : X) (now next : ℕ) →
    i < length xs →
    x ≡ get_or xs i x →
    now ≡ sum_by f (take i xs) →
    next ≡ now + f x →
    next ≡ sum_by f (take (i + 1) xs)
sum-more {X} f xs i x now next within at before after =
    let same : take (i + 1) xs ≡ take i xs ++ x ∷ [] = take_more xs i x within ∙ ap (λ (y : X). take i xs ++ y ∷ []) (sym at) in
    let sums : sum_by f (take (i + 1) xs) ≡ sum_by f (take i xs) + sum_by f (x ∷ []) = ap (sum_by f) same ∙ sum_by-append f (take i xs) (x ∷ []) in
    omega arith

-- a test counts once at most
pub one_at_most : (b : Bool) → cond b 1 0 ≤ 1
one_at_most true = omega arith
one_at_most false = omega arith

-- a test that cannot hold fails
pub fails : (b : Bool) → (b ≡ true → ⊥) → b ≡ false
fails true never = absurd (never refl)
fails false never = refl

-- where a message has one more than it had and each other message what it had, the message was counted once more
pub counted : (old new : List (MsgId × ℕ)) (id : MsgId) (n : ℕ) →
    n ≡ count_at id old + 1 →
    ((q : MsgId) → lookup (same_id q) new ≡ cond (same_id id q) (Some n) (lookup (same_id q) old)) →
    (q : MsgId) →
    count_at q new ≡ count_at q old + cond (same_id q id) 1 0
counted old new id n is updates q = ap (λ o. unwrap_or o 0) (updates q) ∙ go (same_id id q) refl
  where
    go : (b : Bool) → same_id id q ≡ b → unwrap_or (cond b (Some n) (lookup (same_id q) old)) 0 ≡ count_at q old + cond (same_id q id) 1 0
    go true e =
        let one : id ≡ q = (same_id-Decides id q).0 e in
        let same : same_id q id ≡ true = (same_id-Decides q id).1 (sym one) in
        is ∙ ap (λ i. count_at i old + 1) one ∙ ap (λ b. count_at q old + cond b 1 0) (sym same)
    go false e =
        let other : same_id q id ≡ false = fails (same_id q id) (λ same. false≢true (sym e ∙ (same_id-Decides id q).1 (sym ((same_id-Decides q id).0 same)))) in
        let none : count_at q old ≡ count_at q old + 0 = omega arith in
        none ∙ ap (λ b. count_at q old + cond b 1 0) (sym other)
