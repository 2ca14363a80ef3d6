-- What is said in turn, of one item more.
use Rattle.std.proofs.Common.{◌≡◌, ◌<◌, ◌+◌, ℕ, List, [], ◌∷◌, ◌++◌, length, take, get_or, refl, sym, ◌∙◌, ap, subst, append_assoc, append-nil}
use Rattle.std.proofs.lemmas.List.{take_more}
use Rattle.simulation.specs.Turns.{InTurn}

module _ {T : Type 0} (Tells : T → List ℕ → Type 0) where
  InTurn-push : (items : List T) (item : T) (text more : List ℕ) → InTurn Tells items text → Tells item more → InTurn Tells (items ++ item ∷ []) (text ++ more)
  InTurn-push [] item text more told one = (more, [], one, refl, ap (λ (t : List ℕ). t ++ more) told ∙ sym (append-nil more))
  InTurn-push (e ∷ items) item text more (first, rest, head, tail, is) one =
      (first, rest ++ more, head, InTurn-push items item rest more tail one, ap (λ (t : List ℕ). t ++ more) is ∙ append_assoc first rest more)

  -- the items up to the next one
  pub InTurn-more : (items : List T) (k : ℕ) (item : T) (text more : List ℕ) →
      k < length items →
      item ≡ get_or items k item →
      InTurn Tells (take k items) text →
      Tells item more →
      InTurn Tells (take (k + 1) items) (text ++ more)
  InTurn-more items k item text more within here told one =
      let P : List T → Type 0 = λ some. InTurn Tells some (text ++ more) in
      let same : take (k + 1) items ≡ take k items ++ item ∷ [] = take_more items k item within ∙ ap (λ (i : T). take k items ++ i ∷ []) (sym here) in
      subst P (sym same) (InTurn-push (take k items) item text more told one)
