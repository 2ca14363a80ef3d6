-- Slots read one after the other: those that are empty give nothing.
use Rattle.std.proofs.Common.{◌≡◌, ◌∙◌, ◌+◌, ◌<◌, ℕ, List, [], ◌∷◌, ◌++◌, append-nil, ap, false, get_or, length, refl, subst, sym, take, true}
use Rattle.std.specs.Prelude.{Bool, Option, Some, None, cond, MatchBool}
use Rattle.std.specs.Iterator.Adapters.{option_iter_done, option_iter_item, option_iter_steps}
use Rattle.std.specs.List.{flat_map}
use Rattle.std.specs.Option.{option_to_list}
use Rattle.std.proofs.lemmas.Iterator.{YieldsList}
use Rattle.std.proofs.lemmas.List.{take_more}
use Rattle.std.proofs.lemmas.Iterator.Consumers.{YieldsList-from_shown}
use Rattle.node_names.specs.Slots.{somes}
use denote.Ref.{Bor}

module _ {X : Type 0} where
  nothing_left : (done : Bool) (o : Option X) → MatchBool done (◌≡◌ {A = Option (Bor X)} None None) (None ≡ o) → length (cond done [] (option_to_list o)) ≡ 0
  nothing_left true o h = refl
  nothing_left false o h = ap (λ k. length (option_to_list k)) (sym h)

  one_left : (done : Bool) (o : Option X) (x : Bor X) → MatchBool done (Some x ≡ None) (Some x.now ≡ o) → cond done [] (option_to_list o) ≡ x.now ∷ []
  one_left true o x h = absurd (cc h)
  one_left false o x h = ap option_to_list (sym h)

  -- a slot gives its value, if it has one
  pub slot_yields : {slot : _} (o : Option X) →
      option_iter_item slot ≡ o →
      option_iter_done slot ≡ false →
      YieldsList (option_iter_steps {A = X}) (λ y. y.now) slot (option_to_list o)
  slot_yields {slot} o item fresh =
      subst (λ xs. YieldsList (option_iter_steps {A = X}) (λ y. y.now) slot xs)
      (ap (λ done. cond done [] (option_to_list (option_iter_item slot))) fresh ∙ ap option_to_list item)
      (YieldsList-from_shown (option_iter_steps {A = X}) (λ y. y.now) (λ s. cond (option_iter_done s) [] (option_to_list (option_iter_item s)))
      (λ s t h. nothing_left (option_iter_done s) (option_iter_item s) h.1)
      (λ s x t h. one_left (option_iter_done s) (option_iter_item s) x h.1 ∙ ap (λ done. x.now ∷ cond done [] (option_to_list (option_iter_item t))) (sym h.0))
      slot)

  -- all that slots give
  pub slots_give : (slots : List (Option X)) → flat_map option_to_list slots ≡ somes slots
  slots_give [] = refl
  slots_give (None ∷ slots) = slots_give slots
  slots_give (Some x ∷ slots) = ap (λ xs. x ∷ xs) (slots_give slots)

  somes-append : (xs ys : List (Option X)) → somes (xs ++ ys) ≡ somes xs ++ somes ys
  somes-append [] ys = refl
  somes-append (None ∷ xs) ys = somes-append xs ys
  somes-append (Some x ∷ xs) ys = ap (λ zs. x ∷ zs) (somes-append xs ys)

  -- one slot more that has a value
  pub somes_some : (slots : List (Option X)) (i : ℕ) (slot : Option X) (x : X) →
      i < length slots →
      slot ≡ get_or slots i slot →
      slot ≡ Some x →
      somes (take (i + 1) slots) ≡ somes (take i slots) ++ x ∷ []
  somes_some slots i slot x within at is =
      ap (λ (front : List (Option X)). somes front) (take_more slots i slot within ∙ ap (λ (last : Option X). take i slots ++ last ∷ []) (sym at ∙ is))
      ∙ somes-append (take i slots) (Some x ∷ [])

  -- one slot more that is empty
  pub somes_none : (slots : List (Option X)) (i : ℕ) (slot : Option X) →
      i < length slots →
      slot ≡ get_or slots i slot →
      slot ≡ None →
      somes (take (i + 1) slots) ≡ somes (take i slots)
  somes_none slots i slot within at is =
      ap (λ (front : List (Option X)). somes front) (take_more slots i slot within ∙ ap (λ (last : Option X). take i slots ++ last ∷ []) (sym at ∙ is))
      ∙ somes-append (take i slots) (None ∷ []) ∙ append-nil (somes (take i slots))
