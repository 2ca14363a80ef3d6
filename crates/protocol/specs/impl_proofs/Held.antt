-- Lemmas on a list of messages to which one more is added: proofs, with nothing to take on trust.
use Rattle.std.specs.Prelude.{◌≡◌, ◌⊎◌, ◌↔◌, Bool, true, false, cond, List, [], ◌∷◌, ◌++◌, Option, Some, None, IsSome, is_some, if◌then◌else◌, refl}
use Rattle.std.specs.Map.{keys_of, lookup}
use Rattle.std.proofs.Common.{inl, inr, sym, ◌∙◌, ap, subst}
use Rattle.std.proofs.lemmas.Bool.{false≢true}
use Rattle.std.specs.Option.{unwrap_or}
use Rattle.node_names.specs.Same.{same_id, same_id-Decides}
use Rattle.node_names.specs.declared.ids.MsgId.{MsgId}
use Rattle.protocol.specs.Lists.{IsOneOf}

-- what two equal options hold is equal
pub same_inside : {X : Type 0} (x y : X) → Some x ≡ Some y → x ≡ y
same_inside x y e = ap (λ o. unwrap_or o x) e

-- an added entry is found if it passes the test and none was found before
pub lookup-push : {K X : Type 0} (test : K → Bool) (es : List (K × X)) (k : K) (v : X) →
    lookup test (es ++ (k, v) ∷ []) ≡ (if is_some (lookup test es) then lookup test es else (if test k then Some v else None))
lookup-push test [] k v = refl
lookup-push {K} {X} test (e ∷ es) k v = go (test e.0) (lookup-push test es k v)
  where
    go : (b : Bool) →
        lookup test (es ++ (k, v) ∷ []) ≡ (if is_some (lookup test es) then lookup test es else (if test k then Some v else None)) →
        cond b (Some e.1) (lookup test (es ++ (k, v) ∷ []))
        ≡ (if is_some (cond b (Some e.1) (lookup test es)) then cond b (Some e.1) (lookup test es) else (if test k then Some v else None))
    go true later = refl
    go false later = later

-- an id is the same as itself
pub same_id-refl : (id : MsgId) → same_id id id ≡ true
same_id-refl id = (same_id-Decides id id).1 refl

module _ {X : Type 0} (held : List (MsgId × X)) (id : MsgId) (p : X) where
  -- what is found after a push was found before, or is what was pushed
  pub found_after_push : (j : MsgId) (q : X) → lookup (same_id j) (held ++ (id, p) ∷ []) ≡ Some q → (lookup (same_id j) held ≡ Some q) ⊎ ((j ≡ id) × (q ≡ p))
  found_after_push j q found = go (lookup (same_id j) held) (same_id j id) refl refl (sym (lookup-push (same_id j) held id p) ∙ found)
    where
      go : (o : Option X) (b : Bool) →
          lookup (same_id j) held ≡ o →
          same_id j id ≡ b →
          (if is_some o then o else (if b then Some p else None)) ≡ Some q →
          (lookup (same_id j) held ≡ Some q) ⊎ ((j ≡ id) × (q ≡ p))
      go (Some r) b is_o is_b e = inl (is_o ∙ e)
      go None true is_o is_b e = inr ((same_id-Decides j id).0 is_b, sym (same_inside p q e))
      go None false is_o is_b e = absurd (false≢true (ap is_some e))

  -- what is held after a push was held before, or is what was pushed
  pub held_after_push : (j : MsgId) → is_some (lookup (same_id j) (held ++ (id, p) ∷ [])) ≡ true → (is_some (lookup (same_id j) held) ≡ true) ⊎ (j ≡ id)
  held_after_push j is = go (lookup (same_id j) held) (same_id j id) refl refl (subst (λ o. is_some o ≡ true) (lookup-push (same_id j) held id p) is)
    where
      go : (o : Option X) (b : Bool) →
          lookup (same_id j) held ≡ o →
          same_id j id ≡ b →
          is_some (if is_some o then o else (if b then Some p else None)) ≡ true →
          (is_some (lookup (same_id j) held) ≡ true) ⊎ (j ≡ id)
      go (Some r) b is_o is_b e = inl (ap is_some is_o)
      go None true is_o is_b e = inr ((same_id-Decides j id).0 is_b)
      go None false is_o is_b e = absurd (false≢true e)

  -- what was held stays
  pub stays_after_push : (j : MsgId) → is_some (lookup (same_id j) held) ≡ true → is_some (lookup (same_id j) (held ++ (id, p) ∷ [])) ≡ true
  stays_after_push j is = subst (λ o. is_some o ≡ true) (sym (lookup-push (same_id j) held id p)) (go (lookup (same_id j) held) is)
    where
      go : (o : Option X) → is_some o ≡ true → is_some (if is_some o then o else (if same_id j id then Some p else None)) ≡ true
      go (Some r) e = refl
      go None e = absurd (false≢true e)

  -- what was pushed is held
  pub pushed_is_held : is_some (lookup (same_id id) (held ++ (id, p) ∷ [])) ≡ true
  pushed_is_held = subst (λ o. is_some o ≡ true) (sym (lookup-push (same_id id) held id p)) (go (lookup (same_id id) held) (same_id id id) (same_id-refl id))
    where
      go : (o : Option X) (b : Bool) → b ≡ true → is_some (if is_some o then o else (if b then Some p else None)) ≡ true
      go (Some r) b e = refl
      go None true e = refl
      go None false e = absurd (false≢true e)

-- the key of a pushed entry goes last
pub keys_after_push : {X : Type 0} (held : List (MsgId × X)) (id : MsgId) (p : X) → keys_of (held ++ (id, p) ∷ []) ≡ keys_of held ++ id ∷ []
keys_after_push [] id p = refl
keys_after_push (e ∷ held) id p = ap (λ is. e.0 ∷ is) (keys_after_push held id p)

-- what is found is what has a key
pub found_by_key : {X : Type 0} (held : List (MsgId × X)) (id : MsgId) → IsSome (lookup (same_id id) held) ↔ IsOneOf id (keys_of held)
found_by_key [] id = ((λ found. absurd (false≢true found)), (λ one. absurd one))
found_by_key {X} (e ∷ held) id = go (same_id id e.0) refl (found_by_key held id)
  where
    go : (b : Bool) →
        same_id id e.0 ≡ b →
        IsSome (lookup (same_id id) held) ↔ IsOneOf id (keys_of held) →
        IsSome (cond b (Some e.1) (lookup (same_id id) held)) ↔ IsOneOf id (e.0 ∷ keys_of held)
    go true same later = ((λ found. inl ((same_id-Decides id e.0).0 same)), (λ one. refl))
    go false apart later = (
      (λ found. inr (later.0 found)),
      (λ one. elim one [ inl here ↦ absurd (false≢true (sym apart ∙ (same_id-Decides id e.0).1 here)) | inr there ↦ later.1 there ]),
    )
