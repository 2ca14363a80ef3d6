-- Of the messages that were delivered the last ones are held: what this must satisfy. Proofs only; nothing here has to
-- be trusted.
use Rattle.std.specs.Prelude.{◌≡◌, ◌⊎◌, ◌+◌, ◌-◌, ◌<◌, ◌≤◌, ℕ, suc, zero, Bool, true, false, cond, List, [], ◌∷◌}
use Rattle.std.specs.Prelude.{◌++◌, Option, Some, None, drop, take, is_some, length, nat_eq, refl, if◌then◌else◌}
use Rattle.std.specs.Map.{keys_of, lookup}
use Rattle.std.proofs.Common.{inl, inr, sym, ◌∙◌, ap, subst, arith}
use Rattle.std.proofs.lemmas.Bool.{false≢true}
use Rattle.std.proofs.lemmas.List.{length-drop}
use Rattle.node_names.specs.Same.{same_id, same_id-Decides}
use Rattle.node_names.specs.declared.ids.MsgId.{MsgId}
use Rattle.node_names.specs.declared.ids.Origin.{Origin}
use Rattle.protocol.specs.DeliveryLaw.{ids}
use Rattle.protocol.specs.impl_proofs.Held.{keys_after_push, lookup-push}
use Rattle.protocol.specs.HoldLaw.{AreLast, KeepsLast}
use Rattle.known_messages.specs.Held.{kept_last}
use Rattle.node_core.specs.Plum.{HeldOnce}
use Rattle.node_core.specs.Steps.{delivered_at}

-- ---- each message stands once

-- another message is not found after a push either
lacks_pushed : (held : List (MsgId × List ℕ)) (id other : MsgId) (p : List ℕ) →
    lookup (same_id other) held ≡ None →
    same_id other id ≡ false →
    lookup (same_id other) (held ++ (id, p) ∷ []) ≡ None
lacks_pushed held id other p lacks apart =
    lookup-push (same_id other) held id p
    ∙ ap (λ o. if is_some o then o else (if same_id other id then Some p else None)) lacks
    ∙ ap (λ b. if b then Some p else None) apart

pub once_pushed : (held : List (MsgId × List ℕ)) (id : MsgId) (p : List ℕ) → HeldOnce held → lookup (same_id id) held ≡ None → HeldOnce (held ++ (id, p) ∷ [])
once_pushed [] id p once lacks = (refl, tt)
once_pushed (m ∷ held) id p once lacks = go (same_id id m.0) refl lacks (once_pushed held id p once.1)
  where
    go : (b : Bool) →
        same_id id m.0 ≡ b →
        cond b (Some m.1) (lookup (same_id id) held) ≡ None →
        (lookup (same_id id) held ≡ None → HeldOnce (held ++ (id, p) ∷ [])) →
        (lookup (same_id m.0) (held ++ (id, p) ∷ []) ≡ None) × HeldOnce (held ++ (id, p) ∷ [])
    go true same found later = absurd (false≢true (sym (ap is_some found)))
    go false apart found later = (lacks_pushed held id m.0 p once.0 (other (same_id m.0 id) refl), later found)
      where
        other : (b : Bool) → same_id m.0 id ≡ b → b ≡ false
        other true same = absurd (false≢true (sym apart ∙ (same_id-Decides id m.0).1 (sym ((same_id-Decides m.0 id).0 same))))
        other false is = refl

once_dropped : (n : ℕ) (held : List (MsgId × List ℕ)) → HeldOnce held → HeldOnce (drop n held)
once_dropped zero held once = once
once_dropped (suc n) [] once = once
once_dropped (suc n) (m ∷ held) once = once_dropped n held once.1

pub once_kept : (keep : ℕ) (held : List (MsgId × List ℕ)) → HeldOnce held → HeldOnce (kept_last keep held)
once_kept keep held once = go (nat_eq keep 0)
  where
    go : (b : Bool) → HeldOnce (if b then held else drop (length held - keep) held)
    go true = once
    go false = once_dropped (length held - keep) held once

-- ---- what is held was held

found_dropped : (n : ℕ) (held : List (MsgId × List ℕ)) →
    HeldOnce held →
    (j : MsgId) (p : List ℕ) →
    lookup (same_id j) (drop n held) ≡ Some p →
    lookup (same_id j) held ≡ Some p
found_dropped zero held once j p found = found
found_dropped (suc n) [] once j p found = found
found_dropped (suc n) (m ∷ held) once j p found = go (same_id j m.0) refl (found_dropped n held once.1 j p found)
  where
    go : (b : Bool) → same_id j m.0 ≡ b → lookup (same_id j) held ≡ Some p → cond b (Some m.1) (lookup (same_id j) held) ≡ Some p
    go true same later = absurd (false≢true (ap is_some (sym once.0 ∙ sym (ap (λ i. lookup (same_id i) held) ((same_id-Decides j m.0).0 same)) ∙ later)))
    go false apart later = later

pub found_kept : (keep : ℕ) (held : List (MsgId × List ℕ)) →
    HeldOnce held →
    (j : MsgId) (p : List ℕ) →
    lookup (same_id j) (kept_last keep held) ≡ Some p →
    lookup (same_id j) held ≡ Some p
found_kept keep held once j p = go (nat_eq keep 0)
  where
    go : (b : Bool) → lookup (same_id j) (if b then held else drop (length held - keep) held) ≡ Some p → lookup (same_id j) held ≡ Some p
    go true found = found
    go false found = found_dropped (length held - keep) held once j p found

pub was_held : (keep : ℕ) (held : List (MsgId × List ℕ)) →
    HeldOnce held →
    (j : MsgId) →
    is_some (lookup (same_id j) (kept_last keep held)) ≡ true →
    is_some (lookup (same_id j) held) ≡ true
was_held keep held once j is = go (lookup (same_id j) (kept_last keep held)) refl is
  where
    go : (o : Option (List ℕ)) → lookup (same_id j) (kept_last keep held) ≡ o → is_some o ≡ true → is_some (lookup (same_id j) held) ≡ true
    go None found e = absurd (false≢true e)
    go (Some p) found e = ap is_some (found_kept keep held once j p found)

-- if all are to be kept, all are
pub all_kept : (keep : ℕ) (held : List (MsgId × List ℕ)) → keep ≡ 0 → kept_last keep held ≡ held
all_kept keep held none = ap (λ k. kept_last k held) none

-- ---- the last of them

split_keys : (n : ℕ) (held : List (MsgId × List ℕ)) → keys_of held ≡ keys_of (take n held) ++ keys_of (drop n held)
split_keys zero held = refl
split_keys (suc n) [] = refl
split_keys (suc n) (m ∷ held) = ap (λ is. m.0 ∷ is) (split_keys n held)

length_keys : (held : List (MsgId × List ℕ)) → length (keys_of held) ≡ length held
length_keys [] = refl
length_keys (m ∷ held) = ap suc (length_keys held)

-- dropping a front leaves the last messages, if as many stay as are to be kept
dropped_last : (keep n : ℕ) (held : List (MsgId × List ℕ)) →
    (n ≡ 0) ⊎ ((0 < keep) × (keep ≤ length (drop n held))) →
    AreLast keep (keys_of held) (keys_of (drop n held))
dropped_last keep n held enough =
    record {
      forgotten = keys_of (take n held);
      in_order = split_keys n held;
      enough =
          elim enough [
            | inl none ↦ inl (ap (λ k. keys_of (take k held)) none)
            | inr some ↦ inr (some.0, subst (λ l. keep ≤ l) (sym (length_keys (drop n held))) some.1)
          ];
    }

pub kept_are_last : (keep : ℕ) (held : List (MsgId × List ℕ)) → AreLast keep (keys_of held) (keys_of (kept_last keep held))
kept_are_last keep held = go (nat_eq keep 0) refl
  where
    few : (keep ≡ 0 → ⊥) → (length held - keep ≡ 0) ⊎ ((0 < keep) × (keep ≤ length (drop (length held - keep) held)))
    few some = either (length held - keep) refl
      where
        either : (n : ℕ) → length held - keep ≡ n → (n ≡ 0) ⊎ ((0 < keep) × (keep ≤ length (drop n held)))
        either zero is = inl refl
        either (suc n) is = inr (omega (arith, some), subst (λ l. keep ≤ l) (sym (length-drop (suc n) held)) (omega (arith, is)))

    go : (b : Bool) → nat_eq keep 0 ≡ b → AreLast keep (keys_of held) (keys_of (if b then held else drop (length held - keep) held))
    go true is = dropped_last keep 0 held (inl refl)
    go false is = dropped_last keep (length held - keep) held (few (λ none. false≢true (sym is ∙ ap (λ k. nat_eq k 0) none)))

-- A delivery is listed last, and then only the last ones are.
pub keeps_delivered : (keep : ℕ) (me : Origin) (held : List (MsgId × List ℕ)) (id : MsgId) (p : List ℕ) →
    KeepsLast keep (keys_of held) (ids (delivered_at me (Some (id, p)))) (keys_of (kept_last keep (held ++ (id, p) ∷ [])))
keeps_delivered keep me held id p =
    record {
      last =
          subst (λ all. AreLast keep all (keys_of (kept_last keep (held ++ (id, p) ∷ []))))
          (keys_after_push held id p) (kept_are_last keep (held ++ (id, p) ∷ []));
      stays = λ none. absurd (no_such none);
    }
  where
    no_such : id ∷ [] ≡ [] → ⊥
    no_such e = false≢true (ap is_empty (sym e))
      where
        is_empty : List MsgId → Bool
        is_empty [] = false
        is_empty (i ∷ is) = true

-- If nothing is delivered, the list stays the same.
pub keeps_all_listed : (keep : ℕ) (listed : List MsgId) → KeepsLast keep listed [] listed
keeps_all_listed keep listed =
    record {
      last = record { forgotten = []; in_order = none_more listed; enough = inl refl };
      stays = λ none. refl;
    }
  where
    none_more : (is : List MsgId) → is ++ [] ≡ is
    none_more [] = refl
    none_more (i ∷ is) = ap (λ rest. i ∷ rest) (none_more is)
