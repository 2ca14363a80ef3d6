-- What is held, and what waits to be announced, is known.
use Rattle.std.proofs.Common.{◌≡◌, ◌∙◌, ◌⊎◌, inl, inr, ◌||◌, ℕ, suc, zero, Bool, true, false, not, cond}
use Rattle.std.proofs.Common.{List, [], ◌∷◌, ◌++◌, Option, None, Some, map, filter, sym, ap, refl}
use Rattle.std.specs.Prelude.{◌-◌, drop, is_some, length, nat_eq}
use Rattle.std.specs.FinSet as set
use Rattle.std.specs.List.{AllByRecursion as Each}
use Rattle.std.specs.Map.{lookup}
use Rattle.std.proofs.lemmas.Bool.{false≢true}
use Rattle.known_messages.specs.Held.{kept_last}
use Rattle.node_names.specs.NodeName.{Name}
use Rattle.node_names.specs.Order.{id_cmp}
use Rattle.node_names.specs.Same.{same_name, same_id, same_id-Decides}
use Rattle.node_names.specs.declared.ids.MsgId.{MsgId}
use Rattle.peer_sets.specs.Queue.{has_entry_of, is_queued, with_entries, without_entries, without_all_entries}
use Rattle.gossip_core.specs.Store.{AreKnown}
use Rattle.gossip_core.proofs.IdOrder.{id_ties, id_total}

-- ---- a message that is not known

none_from : {X : Type 0} (o : Option X) → (is_some o ≡ true → ⊥) → o ≡ None
none_from None lacks = refl
none_from (Some x) lacks = absurd (lacks refl)

module _ (known : set.FinSet id_cmp) (held : List (MsgId × List ℕ)) (queued : List (Name × MsgId × ℕ))
    (are : AreKnown known held queued) (id : MsgId) (unknown : set.contains known id ≡ false) where
  -- is not held
  pub not_held : lookup (same_id id) held ≡ None
  not_held = none_from (lookup (same_id id) held) (λ is. false≢true (sym unknown ∙ are.each_held id is))

  -- and does not wait
  pub unqueued : has_entry_of id queued ≡ false
  unqueued = go queued are.each_queued
    where
      go : (entries : List (Name × MsgId × ℕ)) → Each (λ entry. set.contains known entry.1 ≡ true) entries → has_entry_of id entries ≡ false
      go [] h = refl
      go (entry ∷ entries) h = either (same_id id entry.1) refl (go entries h.1)
        where
          either : (same : Bool) → same_id id entry.1 ≡ same → has_entry_of id entries ≡ false → (same_id id entry.1 || has_entry_of id entries) ≡ false
          either false is later = ap (λ b. b || has_entry_of id entries) is ∙ later
          either true is later = absurd (false≢true (sym unknown ∙ ap (set.contains known) ((same_id-Decides id entry.1).0 is) ∙ h.0))

-- ---- what is kept of a list

found_in_drop : (n : ℕ) (held : List (MsgId × List ℕ)) (q : MsgId) →
    is_some (lookup (same_id q) (drop n held)) ≡ true →
    is_some (lookup (same_id q) held) ≡ true
found_in_drop zero held q is = is
found_in_drop (suc n) [] q is = is
found_in_drop (suc n) (message ∷ held) q is = go (same_id q message.0) (found_in_drop n held q is)
  where
    go : (b : Bool) → is_some (lookup (same_id q) held) ≡ true → is_some (cond b (Some message.1) (lookup (same_id q) held)) ≡ true
    go true later = refl
    go false later = later

-- was there before
pub found_in_kept : (keep : ℕ) (held : List (MsgId × List ℕ)) (q : MsgId) →
    is_some (lookup (same_id q) (kept_last keep held)) ≡ true →
    is_some (lookup (same_id q) held) ≡ true
found_in_kept keep held q = go (nat_eq keep 0)
  where
    go : (b : Bool) → is_some (lookup (same_id q) (cond b held (drop (length held - keep) held))) ≡ true → is_some (lookup (same_id q) held) ≡ true
    go true is = is
    go false is = found_in_drop (length held - keep) held q is

-- ---- one more message

or_true : (b : Bool) → (b || true) ≡ true
or_true true = refl
or_true false = refl

module _ (known : set.FinSet id_cmp) (id : MsgId) where
  contains-more : (q : MsgId) → set.contains (set.insert known id) q ≡ (same_id q id || set.contains known q)
  contains-more q = set.contains-insert id_total known id q ∙ ap (λ b. b || set.contains known q) (sym (id_ties q id))

  pub found_in_insert : (q : MsgId) → set.contains (set.insert known id) q ≡ true → (set.contains known q ≡ true) ⊎ (q ≡ id)
  found_in_insert q is = go (same_id q id) (set.contains known q) refl refl (sym (contains-more q) ∙ is)
    where
      go : (new was : Bool) → same_id q id ≡ new → set.contains known q ≡ was → (new || was) ≡ true → (set.contains known q ≡ true) ⊎ (q ≡ id)
      go true was same is_was e = inr ((same_id-Decides q id).0 same)
      go false true other is_was e = inl is_was
      go false false other is_was e = absurd (false≢true e)

  stays : (q : MsgId) → set.contains known q ≡ true → set.contains (set.insert known id) q ≡ true
  stays q is = contains-more q ∙ ap (λ b. same_id q id || b) is ∙ or_true (same_id q id)

  is_there : set.contains (set.insert known id) id ≡ true
  is_there = contains-more id ∙ ap (λ b. b || set.contains known id) ((same_id-Decides id id).1 refl)

  -- it is held, or another one is
  held_in_push : (payload : List ℕ) (q : MsgId) (held : List (MsgId × List ℕ)) →
      is_some (lookup (same_id q) (held ++ (id, payload) ∷ [])) ≡ true →
      (is_some (lookup (same_id q) held) ≡ true) ⊎ (q ≡ id)
  held_in_push payload q [] is = go (same_id q id) refl is
    where
      go : (b : Bool) → same_id q id ≡ b → is_some (cond b (Some payload) None) ≡ true → (false ≡ true) ⊎ (q ≡ id)
      go true same e = inr ((same_id-Decides q id).0 same)
      go false other e = inl e
  held_in_push payload q (message ∷ held) is = go (same_id q message.0) (held_in_push payload q held) is
    where
      go : (b : Bool) →
          (is_some (lookup (same_id q) (held ++ (id, payload) ∷ [])) ≡ true → (is_some (lookup (same_id q) held) ≡ true) ⊎ (q ≡ id)) →
          is_some (cond b (Some message.1) (lookup (same_id q) (held ++ (id, payload) ∷ []))) ≡ true →
          (is_some (cond b (Some message.1) (lookup (same_id q) held)) ≡ true) ⊎ (q ≡ id)
      go true later e = inl refl
      go false later e = later e

  -- and its entries wait, whatever is kept
  pub known-with_entries : (names : List Name) (round : ℕ) (payload : List ℕ) (keep : ℕ) (held : List (MsgId × List ℕ)) (queued : List (Name × MsgId × ℕ)) →
      AreKnown known held queued →
      AreKnown (set.insert known id) (kept_last keep (held ++ (id, payload) ∷ [])) (with_entries names id round queued)
  known-with_entries names round payload keep held queued are =
      record {
        each_held =
            λ q is. elim (held_in_push payload q held (found_in_kept keep (held ++ (id, payload) ∷ []) q is)) [
              | inl was ↦ stays q (are.each_held q was)
              | inr same ↦ ap (set.contains (set.insert known id)) same ∙ is_there
            ];
        each_queued = both queued are.each_queued;
      }
    where
      new : (peers : List Name) → Each (λ (entry : Name × MsgId × ℕ). set.contains (set.insert known id) entry.1 ≡ true) (map (λ peer. (peer, id, round)) peers)
      new [] = tt
      new (peer ∷ peers) = (is_there, new peers)

      both : (entries : List (Name × MsgId × ℕ)) →
          Each (λ entry. set.contains known entry.1 ≡ true) entries →
          Each (λ entry. set.contains (set.insert known id) entry.1 ≡ true)
          (entries ++ map (λ peer. (peer, id, round)) (filter (λ peer. not (is_queued peer id queued)) names))
      both [] h = new (filter (λ peer. not (is_queued peer id queued)) names)
      both (entry ∷ entries) h = (stays entry.1 h.0, both entries h.1)

-- ---- entries go

module _ (known : set.FinSet id_cmp) (held : List (MsgId × List ℕ)) where
  pub known-without_entries : (peer : Name) (queued : List (Name × MsgId × ℕ)) → AreKnown known held queued → AreKnown known held (without_entries peer queued)
  known-without_entries peer queued are = record { each_held = are.each_held; each_queued = go queued are.each_queued }
    where
      go : (entries : List (Name × MsgId × ℕ)) →
          Each (λ entry. set.contains known entry.1 ≡ true) entries →
          Each (λ entry. set.contains known entry.1 ≡ true) (without_entries peer entries)
      go [] h = tt
      go (entry ∷ entries) h = either (same_name peer entry.0) (go entries h.1)
        where
          either : (same : Bool) →
              Each (λ entry. set.contains known entry.1 ≡ true) (without_entries peer entries) →
              Each (λ entry. set.contains known entry.1 ≡ true) (cond (not same) (entry ∷ without_entries peer entries) (without_entries peer entries))
          either true later = later
          either false later = (h.0, later)

  pub known-without_all_entries : (peers : List Name) (queued : List (Name × MsgId × ℕ)) →
      AreKnown known held queued →
      AreKnown known held (without_all_entries peers queued)
  known-without_all_entries [] queued are = are
  known-without_all_entries (peer ∷ peers) queued are = known-without_all_entries peers (without_entries peer queued) (known-without_entries peer queued are)

-- ---- nothing is held, and nothing waits

pub known-none : (known : set.FinSet id_cmp) → AreKnown known [] []
known-none known = record { each_held = λ id is. absurd (false≢true is); each_queued = tt }
