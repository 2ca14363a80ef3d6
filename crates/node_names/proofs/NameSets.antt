-- A set that is made of distinct names has them in their order.
use Rattle.std.proofs.Common.{◌≡◌, ◌∙◌, ◌+◌, ◌<◌, ℕ, false, List, [], ◌∷◌, ◌++◌, length, get_or}
use Rattle.std.proofs.Common.{take, sym, ap, subst, arith, if◌then◌else◌, get_or-take, length-take}
use Rattle.std.proofs.lemmas.List.{take_more}
use Rattle.std.proofs.lemmas.List.Elements.{All-from_get_or}
use Rattle.std.proofs.lemmas.List.Folds.{list_any_none}
use Rattle.std.proofs.lemmas.Map.Keys.{apart_from_distinct}
use Rattle.std.specs.List.{IsDistinct, list_any}
use Rattle.indexmap.specs.IndexSet.{insert_key}
use Rattle.node_names.specs.NodeName.{Name}
use Rattle.node_names.specs.Same.{same_name, same_name-laws}

module _ (names : List Name) (i : ℕ) (distinct : IsDistinct same_name names) (within : i < length names) where
  -- none of the names before it is the name at a place
  new_to_those_before : (d : Name) → list_any (same_name (get_or names i d)) (take i names) ≡ false
  new_to_those_before d =
      list_any_none (same_name (get_or names i d)) (take i names)
      (All-from_get_or (λ other. same_name (get_or names i d) other ≡ false) (take i names) d earlier)
    where
      earlier : (k : ℕ) → k < length (take i names) → same_name (get_or names i d) (get_or (take i names) k d) ≡ false
      earlier k h =
          let before : k < i = omega (arith, h, length-take i names) in
          same_name-laws.symm (get_or names i d) (get_or (take i names) k d)
          ∙ ap (λ other. same_name other (get_or names i d)) (get_or-take i names k d before)
          ∙ apart_from_distinct same_name names k i d distinct before within

  -- so its insertion puts it last
  pub inserts_last : (name : Name) (keys : List Name) → name ≡ get_or names i name → keys ≡ take i names → insert_key same_name keys name ≡ take (i + 1) names
  inserts_last name keys is are =
      subst (λ ks. insert_key same_name ks name ≡ take (i + 1) names) (sym are)
      (subst (λ n. insert_key same_name (take i names) n ≡ take (i + 1) names) (sym is) last)
    where
      last : insert_key same_name (take i names) (get_or names i name) ≡ take (i + 1) names
      last = ap (λ b. if b then take i names else take i names ++ get_or names i name ∷ []) (new_to_those_before name) ∙ sym (take_more names i name within)
