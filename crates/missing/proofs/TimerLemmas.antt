-- The armed timers, and the map of their places.
use Rattle.std.proofs.Common.{◌≡◌, ◌∙◌, ◌<◌, ◌+◌, ℕ, true, false, cond, List, [], ◌∷◌, ◌++◌}
use Rattle.std.proofs.Common.{Option, None, Some, map, length, take, get_or, sym, ap, subst, refl}
use Rattle.std.specs.Prelude.{set, is_some, if◌then◌else◌}
use Rattle.std.specs.List.{IsDistinct}
use Rattle.std.proofs.lemmas.List.{append-nil, take_more}
use Rattle.std.proofs.lemmas.Option.{slice_get-get_or}
use Rattle.node_names.specs.Same.{same_id, same_id-Decides, has_id}
use Rattle.node_names.specs.Slots.{somes}
use Rattle.node_names.specs.declared.ids.MsgId.{MsgId}
use Rattle.missing.specs.Slots.{place, has_timer}
use Rattle.missing.specs.Timers.{with_slot, with_timer, without_timer}
use Rattle.missing.proofs.SlotLemmas.{any-place, filter-unplaced, none_before, placed-push, placed-taken_out, somes-append, somes-taken_out}

map-self : (ids : List MsgId) → map (λ id. id) ids ≡ ids
map-self [] = refl
map-self (id ∷ ids) = ap (λ others. id ∷ others) (map-self ids)

distinct_keys : (slots : List (Option MsgId)) → IsDistinct same_id (somes slots) → IsDistinct same_id (map (λ id. id) (somes slots))
distinct_keys slots distinct = subst (IsDistinct same_id) (sym (map-self (somes slots))) distinct

module _ (slots : List (Option MsgId)) (id : MsgId) where
  -- an id is armed where it has a place
  pub armed-place : has_id (somes slots) id ≡ is_some (place (has_timer id) slots)
  armed-place = any-place same_id same_id-Decides (λ armed. armed) id slots

  pub armed-old : has_id (somes slots) id ≡ true → somes slots ≡ with_timer id (somes slots)
  armed-old is = sym (ap (λ b. if b then somes slots else somes slots ++ id ∷ []) is)

  pub armed-new : has_id (somes slots) id ≡ false → somes (slots ++ Some id ∷ []) ≡ with_timer id (somes slots)
  armed-new is = somes-append slots (Some id ∷ []) ∙ sym (ap (λ b. if b then somes slots else somes slots ++ id ∷ []) is)

  pub disarmed : (n : ℕ) → IsDistinct same_id (somes slots) → place (has_timer id) slots ≡ Some n → somes (set slots n None) ≡ without_timer id (somes slots)
  disarmed n distinct is = somes-taken_out same_id same_id-Decides (λ armed. armed) id slots n (distinct_keys slots distinct) is

  pub not_armed : place (has_timer id) slots ≡ None → without_timer id (somes slots) ≡ somes slots
  not_armed none = filter-unplaced same_id same_id-Decides (λ armed. armed) id slots none

module _ (slots : List (Option MsgId)) (old new : MsgId → Option ℕ) (are : (k : MsgId) → old k ≡ place (has_timer k) slots) where
  pub timed-push : (id : MsgId) →
      old id ≡ None →
      ((k : MsgId) → new k ≡ cond (same_id id k) (Some (length slots)) (old k)) →
      (k : MsgId) →
      new k ≡ place (has_timer k) (slots ++ Some id ∷ [])
  timed-push id none updates = placed-push same_id same_id-Decides (λ armed. armed) slots old new are id none updates

  pub timed-taken_out : (id : MsgId) (n : ℕ) →
      IsDistinct same_id (somes slots) →
      old id ≡ Some n →
      ((k : MsgId) → new k ≡ cond (same_id id k) None (old k)) →
      (k : MsgId) →
      new k ≡ place (has_timer k) (set slots n None)
  timed-taken_out id n distinct is updates =
      placed-taken_out same_id same_id-Decides (λ armed. armed) slots old new are id n (distinct_keys slots distinct) is updates

-- one more of a copy
pub copy-step : (slots : List (Option MsgId)) (i : ℕ) (d : Option MsgId) →
    IsDistinct same_id (somes slots) →
    i < length slots →
    with_slot (get_or slots i d) (somes (take i slots)) ≡ somes (take (i + 1) slots)
copy-step slots i d distinct within = go (get_or slots i d) refl ∙ ap somes (sym (take_more slots i d within))
  where
    go : (slot : Option MsgId) → get_or slots i d ≡ slot → with_slot slot (somes (take i slots)) ≡ somes (take i slots ++ slot ∷ [])
    go None is = sym (somes-append (take i slots) (None ∷ []) ∙ append-nil (somes (take i slots)))
    go (Some id) is =
        sym (armed-new (take i slots) id
        (none_before same_id same_id-Decides (λ armed. armed) slots i id (distinct_keys slots distinct) (slice_get-get_or slots i d within ∙ ap Some is)))
