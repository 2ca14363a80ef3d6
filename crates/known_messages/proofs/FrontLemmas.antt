-- What stands behind the front that was forgotten.
use Rattle.std.proofs.Common.{◌≡◌, ◌∙◌, ◌<◌, ◌≤◌, ℕ, zero, suc, Bool, true, false, List, [], ◌∷◌, None}
use Rattle.std.proofs.Common.{Some, is_some, slice_get, drop, sym, ap, refl, true≢false, unwrap_or, arith}
use Rattle.std.proofs.lemmas.List.Elements.{All-drop, All-from_recursion, recursion_from_All}
use Rattle.std.proofs.lemmas.Map.{lookup-none, none_passes_from_lookup}
use Rattle.std.proofs.lemmas.Map.Entries.{lookup_from_place, none_past_head}
use Rattle.std.proofs.lemmas.Map.Keys.{IsDistinct-tail}
use Rattle.std.proofs.lemmas.Map.Made.{lookup_key_same}
use Rattle.std.specs.Cmp.{IsEquivalence}
use Rattle.std.specs.List.{AllByRecursion as Each, IsDistinct}
use Rattle.std.specs.Map.{keys_of, lookup, lookup_key}
use Rattle.node_names.specs.Same.{same_id, same_id-Decides, same_id-laws}
use Rattle.node_names.specs.declared.ids.MsgId.{MsgId}

-- nothing stands behind the front twice either
pub distinct-drop : {K : Type 0} (eq : K → K → Bool) (n : ℕ) (keys : List K) → IsDistinct eq keys → IsDistinct eq (drop n keys)
distinct-drop eq zero keys distinct = distinct
distinct-drop eq (suc n) [] distinct = distinct
distinct-drop eq (suc n) (key ∷ keys) distinct = distinct-drop eq n keys (IsDistinct-tail eq key keys distinct)

module _ {K X : Type 0} where
  each-drop : (P : K × X → Type 0) (n : ℕ) (entries : List (K × X)) → Each P entries → Each P (drop n entries)
  each-drop P n entries each = recursion_from_All P (drop n entries) (All-drop P n entries (All-from_recursion P entries each))

  -- what is found nowhere is not found behind the front
  pub lookup-drop-none : (test : K → Bool) (n : ℕ) (entries : List (K × X)) → None ≡ lookup test entries → None ≡ lookup test (drop n entries)
  lookup-drop-none test n entries none =
      sym (lookup-none test (drop n entries) (each-drop (λ e. test e.0 ≡ false) n entries (none_passes_from_lookup test entries (sym none))))

  -- a key that stands in the front does not stand behind it
  in_front : {eq : K → K → Bool} →
      IsEquivalence eq →
      (entries : List (K × X)) (gone place : ℕ) (key : K) (v : X) →
      IsDistinct eq (keys_of entries) →
      slice_get entries place ≡ Some (key, v) →
      place < gone →
      None ≡ lookup (eq key) (drop gone entries)
  in_front laws entries zero place key v distinct here before = absurd (omega arith)
  in_front laws [] (suc gone) place key v distinct here before = refl
  in_front {eq} laws (e ∷ entries) (suc gone) zero key v distinct here before =
      let same : e.0 ≡ key = ap (λ o. (unwrap_or o e).0) here in
      let is : eq key e.0 ≡ true = ap (eq key) same ∙ laws.refl key in
      sym (lookup-none (eq key) (drop gone entries) (each-drop (λ p. eq key p.0 ≡ false) gone entries (none_past_head laws key e entries distinct is)))
  in_front {eq} laws (e ∷ entries) (suc gone) (suc place) key v distinct here before =
      in_front laws entries gone place key v (IsDistinct-tail eq e.0 (keys_of entries) distinct) here (omega arith)

  -- a key that stands behind the front is found there
  behind_front : {eq : K → K → Bool} →
      IsEquivalence eq →
      (entries : List (K × X)) (gone place : ℕ) (key : K) (v : X) →
      IsDistinct eq (keys_of entries) →
      slice_get entries place ≡ Some (key, v) →
      gone ≤ place →
      Some v ≡ lookup (eq key) (drop gone entries)
  behind_front laws entries zero place key v distinct here behind = sym (lookup_from_place laws entries place key v distinct here)
  behind_front laws [] (suc gone) place key v distinct here behind = absurd (true≢false (sym (ap is_some here)))
  behind_front laws (e ∷ entries) (suc gone) zero key v distinct here behind = absurd (omega arith)
  behind_front {eq} laws (e ∷ entries) (suc gone) (suc place) key v distinct here behind =
      behind_front laws entries gone place key v (IsDistinct-tail eq e.0 (keys_of entries) distinct) here (omega arith)

-- ---- a message that is found among all, the forgotten ones too

module _ (entries : List (MsgId × List ℕ)) (gone place : ℕ) (id key : MsgId) (payload : List ℕ) (distinct : IsDistinct same_id (keys_of entries))
    (finds : Some key ≡ lookup_key (same_id id) entries) (at : slice_get entries place ≡ Some (key, payload)) where
  here : slice_get entries place ≡ Some (id, payload)
  here = at ∙ ap (λ k. Some (k, payload)) (sym (lookup_key_same same_id-Decides id entries key (sym finds)))

  pub is_forgotten : place < gone → None ≡ lookup (same_id id) (drop gone entries)
  is_forgotten = in_front same_id-laws entries gone place id payload distinct here

  pub is_held : gone ≤ place → Some payload ≡ lookup (same_id id) (drop gone entries)
  is_held = behind_front same_id-laws entries gone place id payload distinct here
